-- Document 01, "Table of examples": those marked P, and the limits; and of document 02, job 2, a gate of one operand, job 4, the block that is
-- enciphered under the seed, job 7, what the hashes encipher, job 8, outputs by name, and job 12, hashes of the outputs. The theorem is `examples` of
-- proofs/Examples.antt.
use Rattle.std.specs.Prelude.{ℕ, ◌≡◌, true, false, List, [], ◌∷◌, ◌++◌, take, replicate}
use Rattle.model.specs.Circuit.{kind_of, sizes_hold, circuit_of, plain_values}
use Rattle.model.specs.Aes.{Block, block, double, quadruple, s_box}
use Rattle.model.specs.Tokens.{run_block}
use Rattle.model.specs.Hashes.{hash_call, sigma, rekeyed_call}
use Rattle.model.specs.HalfGates.{alpha, beta, gamma}
use Rattle.model.specs.Ending.{output_tweak, hashes}
use Rattle.model.specs.Material.{hashed, last_bytes, material_length}
use Rattle.model.specs.Refusals.{fine, refused, scheme_verdict, mark_verdict}
use Rattle.model.specs.Operations.{yes, no, check_answer}

-- P11's circuit, with other operands and another code
abbrev pub one_gate : ℕ → ℕ → ℕ → List ℕ
one_gate a b code = 0x43 ∷ 0x48 ∷ 0x00 ∷ 0x02 ∷ 0x00 ∷ 0x01 ∷ 0x00 ∷ 0x01 ∷ 0x43 ∷ 0x47 ∷ 0x00 ∷ a ∷ 0x00 ∷ b ∷ code ∷ []

abbrev pub p11 : List ℕ
p11 = one_gate 0x01 0x02 0x08

-- P11's circuit with three outputs by name: its gate's wire, an input under a mark 43 y, and a wire w; m is what its header says of them
abbrev pub named_gate : ℕ → ℕ → ℕ → List ℕ
named_gate m y w =
    0x43 ∷ 0x49 ∷ 0x00 ∷ 0x02 ∷ 0x00 ∷ m ∷ 0x00 ∷ 0x01 ∷ 0x43 ∷ 0x47 ∷ 0x00 ∷ 0x01 ∷ 0x00 ∷ 0x02 ∷ 0x08
    ∷ 0x43 ∷ 0x4F ∷ 0x00 ∷ 0x03 ∷ 0x43 ∷ y ∷ 0x00 ∷ 0x01 ∷ 0x43 ∷ 0x4F ∷ 0x00 ∷ w ∷ []

-- 80 and fifteen 00
abbrev pub highest : Block
highest = 0x80 ∷ replicate 15 0x00

-- 00 01 .. 0F, which is π's key
abbrev pub counted : Block
counted = 0x00 ∷ 0x01 ∷ 0x02 ∷ 0x03 ∷ 0x04 ∷ 0x05 ∷ 0x06 ∷ 0x07 ∷ 0x08 ∷ 0x09 ∷ 0x0A ∷ 0x0B ∷ 0x0C ∷ 0x0D ∷ 0x0E ∷ 0x0F ∷ []

-- α, β, γ of a code
pub record Negations (code α β γ : ℕ) : Type 0 where
  pub is_α : alpha (kind_of code) ≡ α
  pub is_β : beta (kind_of code) ≡ β
  pub is_γ : gamma (kind_of code) ≡ γ

pub record Examples : Type 0 where
  pub P1 : double (block 0) ≡ block 0
  pub P2 : double (block 1) ≡ block 2
  pub P3 : double highest ≡ replicate 15 0x00 ++ (0x87 ∷ [])
  pub P4 : quadruple highest ≡ replicate 14 0x00 ++ (0x01 ∷ 0x0E ∷ [])
  pub P5 : s_box 0x00 ≡ 0x63
  pub P6 : s_box 0x01 ≡ 0x7C
  pub P7 : Negations 8 0 0 0
  pub P8 : Negations 2 1 0 0
  pub P9 : Negations 14 1 1 1
  pub P10 : Negations 7 0 0 1
  pub p11_check : check_answer p11 ≡ yes (record { n = 2; m = 1; q = 1; p = 1 })
  pub p11_plain : plain_values (circuit_of p11) (1 ∷ 1 ∷ []) ≡ 1 ∷ 1 ∷ 1 ∷ []
  pub p12 : check_answer (one_gate 0x01 0x02 0x00) ≡ no (refused 7 3)
  pub p13 : check_answer (one_gate 0x02 0x02 0x08) ≡ no (refused 6 3)
  pub p13_own_wire : check_answer (one_gate 0x01 0x03 0x08) ≡ no (refused 6 3)
  pub p14 : check_answer (take 14 p11) ≡ no (refused 4 14)
  pub p14_short : check_answer (take 7 p11) ≡ no (refused 1 7)
  -- "n=4,096 with q=61,439 passes refusal 3; q=61,440 doesn't. n=1 or m=2, q=1: refusal 3."
  pub largest : sizes_hold false 4096 1 61439 ≡ true
  pub too_many_gates : sizes_hold false 4096 1 61440 ≡ false
  pub too_few_inputs : sizes_hold false 1 1 1 ≡ false
  pub too_many_outputs : sizes_hold false 2 2 1 ≡ false
  -- 02, job 2: P11's circuit with a gate that uses one operand, and what stays refused
  pub negated_check : check_answer (one_gate 0x01 0x02 0x03) ≡ yes (record { n = 2; m = 1; q = 1; p = 0 })
  pub negated_plain : plain_values (circuit_of (one_gate 0x01 0x02 0x03)) (0 ∷ 1 ∷ []) ≡ 0 ∷ 1 ∷ 1 ∷ []
  pub passed_plain : plain_values (circuit_of (one_gate 0x01 0x02 0x0C)) (0 ∷ 1 ∷ []) ≡ 0 ∷ 1 ∷ 0 ∷ []
  pub unused_operand : check_answer (one_gate 0x01 0x03 0x0C) ≡ no (refused 6 3)
  pub fifteen : check_answer (one_gate 0x01 0x02 0x0F) ≡ no (refused 7 3)
  pub sixteen : check_answer (one_gate 0x01 0x02 0x10) ≡ no (refused 7 3)
  -- 02, job 4: run 0 and wire 7, run 1 and R, and a run and a wire of many bytes
  pub first_run : run_block 0 7 ≡ block 7
  pub second_run : run_block 1 0 ≡ replicate 7 0x00 ++ (0x01 ∷ replicate 8 0x00)
  pub long_run : run_block 0x0102030405060708 0x1234
      ≡ 0x01 ∷ 0x02 ∷ 0x03 ∷ 0x04 ∷ 0x05 ∷ 0x06 ∷ 0x07 ∷ 0x08 ∷ replicate 6 0x00 ++ (0x12 ∷ 0x34 ∷ [])
  -- 02, job 7: σ, the encryption of each hash under tweak 6, and what 14 says of 4 and 5
  pub halves : sigma counted ≡ replicate 8 0x08 ++ (0x00 ∷ 0x01 ∷ 0x02 ∷ 0x03 ∷ 0x04 ∷ 0x05 ∷ 0x06 ∷ 0x07 ∷ [])
  pub under_tweak : rekeyed_call highest 6 ≡ record { key = replicate 15 0x00 ++ (0x06 ∷ []); input = 0x80 ∷ replicate 7 0x00 ++ (0x80 ∷ replicate 7 0x00) }
  pub under_fixed : hash_call highest 6 ≡ record { key = counted; input = replicate 15 0x00 ++ (0x81 ∷ []) }
  pub fourth_scheme : scheme_verdict 4 ≡ fine
  pub fifth_scheme : scheme_verdict 5 ≡ refused 14 5
  -- 02, job 8: an input and a repeat among the outputs, and what refuses them
  pub named_check : check_answer (named_gate 0x03 0x4F 0x03) ≡ yes (record { n = 2; m = 3; q = 1; p = 1 })
  pub named_outputs : (circuit_of (named_gate 0x03 0x4F 0x03)).outputs ≡ 3 ∷ 1 ∷ 3 ∷ []
  pub output_mark : check_answer (named_gate 0x03 0x47 0x03) ≡ no (refused 25 2)
  pub output_wire : check_answer (named_gate 0x03 0x4F 0x04) ≡ no (refused 26 3)
  pub output_wire_0 : check_answer (named_gate 0x03 0x4F 0x00) ≡ no (refused 26 3)
  pub first_output : check_answer (named_gate 0x03 0x47 0x04) ≡ no (refused 25 2)
  pub more_than_wires : check_answer (named_gate 0x04 0x4F 0x03) ≡ no (refused 3 2)
  pub named_short : check_answer (take 26 (named_gate 0x03 0x4F 0x03)) ≡ no (refused 4 26)
  -- 02, job 12: the tweaks of the first and of the last output that can be, the length of P11's material by scheme 3 with each mark, marks, and the
  -- bytes of an output whose two hashes are equal, or are not
  pub first_tweak : output_tweak 1 ≡ 131074
  pub last_tweak : output_tweak 65535 ≡ 262142
  pub with_colours : material_length 3 (last_bytes false 1) 1 ≡ 48
  pub with_hashes : material_length 3 (last_bytes true 1) 1 ≡ 79
  pub mark_of_colours : mark_verdict 0x4748 ≡ fine
  pub mark_of_hashes : mark_verdict 0x474A ≡ fine
  pub mark_of_none : mark_verdict 0x4749 ≡ refused 13 0
  pub hashed_file : hashed (0x47 ∷ 0x4A ∷ []) ≡ true
  pub equal_pair : hashes.clash (replicate 32 0x07) ≡ true
  pub unequal_pair : hashes.clash (replicate 31 0x07 ++ (0x08 ∷ [])) ≡ false
