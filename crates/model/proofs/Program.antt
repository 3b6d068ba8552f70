-- Laws of `program_text`: its two cases, 01's examples of it, and that the program need not read more than 65,537 bytes. Assumes nothing.
use Prim.Native.Nat.{ℕ, ◌≤◌, ◌<◌}
use native.Mathlib.Omega.{arith}
use mathlib.Core.Path.{◌≡◌, refl, ap, sym, ◌∙◌}
use mathlib.Core.Bool.{Bool, true, false}
use mathlib.Core.List.{List, [], ◌∷◌}
use lib.ListN.{length, take}
use lib.Seq.{take_all, length-take-le}
use lib.Dec.{ltb}
use borrow.Author.Tests.{ltb-true, ltb-false, lt-ltb, le-ltb}
use Rattle.model.specs.Bytes.{be16}
use Rattle.model.specs.Decimal.{digit, digits, decimal}
use Rattle.model.specs.Circuit.{kinds, kind_of, charges, mark_at, inputs, outputs, gates, named, gate_at, last_wires, circuit_of, most_outputs, sizes_hold, circuit_length, operands_hold}
use Rattle.model.specs.Scheme.{record_length}
use Rattle.model.specs.Gax.{gax}
use Rattle.model.specs.Gaxr.{gaxr}
use Rattle.model.specs.HalfGates.{half}
use Rattle.model.specs.Garbling.{scheme_of}
use Rattle.model.specs.Material.{material_length}
use Rattle.model.specs.Refusals.{refuse, ◌then◌, first_of, head_verdict, gate_verdict, record_verdict, outputs_verdict, circuit_verdict}
use Rattle.model.specs.Operations.{sizes_of}
use Rattle.model.specs.Examples.{one_gate, p11}
use Rattle.model.specs.Program.{line, sizes_line, lengths_line, refused_word, refused_line, too_long_line, check_text, program_text}

module _ (s : List ℕ) where
  pub program_long : 65536 < length s → program_text s ≡ too_long_line
  unfolding program_text
  program_long h = rw (lt-ltb 65536 (length s) h)

  pub program_checked : length s ≤ 65536 → program_text s ≡ check_text (circuit_verdict s) (sizes_of s)
  unfolding program_text
  program_checked h = rw (le-ltb 65536 (length s) h)

-- of a longer input the first 65,537 bytes decide
pub program_front : (s : List ℕ) → program_text (take 65537 s) ≡ program_text s
program_front s = go (ltb 65537 (length s)) refl
  where
    go : (b : Bool) → ltb 65537 (length s) ≡ b → program_text (take 65537 s) ≡ program_text s
    go false e = ap program_text (take_all 65537 s (ltb-false 65537 (length s) e))
    go true e =
        let h : 65537 < length s = ltb-true 65537 (length s) e in
        let t : length (take 65537 s) ≡ 65537 = length-take-le 65537 s (omega arith) in
        program_long (take 65537 s) (omega arith) ∙ sym (program_long s (omega arith))

-- "For P11 it prints `2 1 1 1` and `80 64 48`, one line each. p12 prints `refused 7 3`."
pub record ProgramExamples : Type 0 where
  pub p11_prints : program_text p11
      ≡ 0x32 ∷ 0x20 ∷ 0x31 ∷ 0x20 ∷ 0x31 ∷ 0x20 ∷ 0x31 ∷ 0x0A ∷ 0x38 ∷ 0x30 ∷ 0x20 ∷ 0x36 ∷ 0x34 ∷ 0x20 ∷ 0x34 ∷ 0x38 ∷ 0x0A ∷ []
  pub p12_prints : program_text (one_gate 0x01 0x02 0x00)
      ≡ 0x72 ∷ 0x65 ∷ 0x66 ∷ 0x75 ∷ 0x73 ∷ 0x65 ∷ 0x64 ∷ 0x20 ∷ 0x37 ∷ 0x20 ∷ 0x33 ∷ 0x0A ∷ []

pub program_examples : ProgramExamples
unfolding be16 digit digits decimal kinds kind_of charges mark_at inputs outputs gates named gate_at last_wires circuit_of most_outputs sizes_hold circuit_length operands_hold record_length gax gaxr half scheme_of material_length refuse ◌then◌ first_of head_verdict gate_verdict record_verdict outputs_verdict circuit_verdict sizes_of line sizes_line lengths_line refused_word refused_line too_long_line program_text
program_examples = record { p11_prints = refl; p12_prints = refl }
