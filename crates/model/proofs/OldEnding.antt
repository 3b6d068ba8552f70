-- What material of the mark 47 48 is, gets and decodes to is what 01 says, and so is what refuses a file of another mark than 47 4A. Assumes nothing.
use Prim.Native.Nat.{ℕ, zero, suc, ◌+◌, ◌*◌, ◌-◌}
use native.Mathlib.Nat.{one-mul, add-zero, add_comm}
use native.Mathlib.Numerals.{add-one}
use native.Mathlib.Omega.{arith}
use mathlib.Core.Path.{◌≡◌, refl, sym, ap, ap₂, ◌∙◌}
use mathlib.Core.Bool.{Bool, true, false, cond}
use mathlib.Core.List.{List, [], ◌∷◌, ◌++◌, map}
use lib.ListN.{length, get_or, drop}
use lib.Seq.{get_or-take, get_or-drop}
use Rattle.model.specs.declared.Sizes.{Sizes}
use Rattle.model.specs.declared.Wanted.{Wanted}
use Rattle.model.specs.Bytes.{two, from, tabulate}
use Rattle.model.specs.Circuit.{Circuit, circuit_of, mark_at, outputs}
use Rattle.model.specs.Aes.{Block, block}
use Rattle.model.specs.Tokens.{Garbling, garbling_of, wants_hashes, colour, decoded, input_zeros}
use Rattle.model.specs.Ending.{colours, ending_of}
use Rattle.model.specs.Material.{hashed, last_bytes, header, records, zero_of, stored_of, last_record, material}
use Rattle.model.specs.Evaluation.{bytes_for, stored_at, decode}
use Rattle.model.specs.Calls.{garble_calls, output_calls}
use Rattle.model.specs.Refusals.{fine, refuse, ◌then◌, circuit_verdict, seed_verdict, mark_verdict, file_verdict, stored_verdict, last_verdict, token_verdict, unknown_verdict, made_for, clash_at, clash_verdict}
use Rattle.model.specs.Operations.{made, file_length, garble_verdict, garble_made}
use Rattle.model.specs.Kept.{file_verdict01, last_byte01, last_verdict01, decode_with01, decode01, garble_verdict01, garble_made01}
use Rattle.model.proofs.Lists.{from_cong}
use Rattle.model.proofs.Verdicts.{or_false, then_nothing, first_all, first_same}
use Rattle.model.proofs.Calls.{output_calls_2m}

-- ---- garbling

-- a colour for each output
colours_stored : (γ : Garbling) (k : ℕ) (ws : List ℕ) → stored_of γ colours k ws ≡ map (λ w. colour (zero_of γ w)) ws
unfolding stored_of colours
colours_stored γ k [] = refl
colours_stored γ k (w ∷ ws) = ap (◌∷◌ (colour (zero_of γ w))) (colours_stored γ (suc k) ws)

pub colours_material : (γ : Garbling) → γ.hashed ≡ false
    → material γ ≡ (0x47 ∷ 0x48 ∷ γ.scheme ∷ two γ.circuit.n ++ two (length γ.circuit.outputs) ++ two (length γ.circuit.gates))
    ++ records γ γ.circuit.gates (input_zeros γ) ++ (0x47 ∷ 0x44 ∷ map (λ w. colour (zero_of γ w)) γ.circuit.outputs)
unfolding material header last_record ending_of colours
colours_material γ e =
    ap (λ (b : Bool). (0x47 ∷ (ending_of b).header_mark ∷ γ.scheme ∷ two γ.circuit.n ++ two (length γ.circuit.outputs) ++ two (length γ.circuit.gates))
    ++ records γ γ.circuit.gates (input_zeros γ) ++ (0x47 ∷ (ending_of b).last_mark ∷ stored_of γ (ending_of b) 1 γ.circuit.outputs)) e
    ∙ rw (colours_stored γ 1 γ.circuit.outputs)

colours_apart : (b : Bool) → b ≡ false → (bs : List ℕ) → (ending_of b).clash bs ≡ false
unfolding ending_of colours
colours_apart true e bs = absurd (let z : ◌≡◌ {A = ℕ} 0 1 = cc in omega arith)
colours_apart false e bs = refl

pub no_clash : (γ : Garbling) → γ.hashed ≡ false → clash_verdict γ ≡ fine
unfolding clash_verdict clash_at refuse
no_clash γ e = first_all _ (length γ.circuit.outputs) (λ i h. rw (colours_apart γ.hashed e (made_for γ i)))

pub colours_bytes : (m : ℕ) → last_bytes false m ≡ m
unfolding last_bytes ending_of colours
colours_bytes m = one-mul m

-- what is wanted
module _ (want : Wanted) (e : want.mark ≡ 0x4748) where
  no_hashes : wants_hashes want ≡ false
  no_hashes = rw e

  mark_fine : mark_verdict want.mark ≡ fine
  unfolding mark_verdict refuse
  mark_fine = rw e

  pub verdict_same : (c seed : List ℕ) (km kz ko : ℕ) → garble_verdict c seed want km kz ko ≡ garble_verdict01 c seed want km kz ko
  unfolding garble_verdict garble_verdict01 file_length
  verdict_same c seed km kz ko = rw (mark_fine, no_hashes, colours_bytes (outputs c), then_nothing (circuit_verdict c then seed_verdict seed))

  pub made_same : (c seed : List ℕ) → garble_made c seed want ≡ garble_made01 c seed want
  unfolding garble_made garble_made01 file_length
  made_same c seed =
      let γ = garbling_of c seed want in
      let none : output_calls γ ≡ 0 = output_calls_2m γ ∙ ap (λ (b : Bool). cond b (2 * length γ.circuit.outputs) 0) no_hashes in
      ap₂ made (rw (no_hashes, colours_bytes (outputs c)))
      (ap (λ (n : ℕ). garble_calls γ (circuit_of c).gates (input_zeros γ) + n) none ∙ add-zero (garble_calls γ (circuit_of c).gates (input_zeros γ)))

-- ---- a file of another mark than 47 4A

-- byte i, from an index on
pub byte_at : (s : List ℕ) (at i : ℕ) → get_or (bytes_for colours s at i) 0 0 ≡ get_or s (at + i) 0
unfolding bytes_for colours
byte_at s at i = get_or-take 1 (drop (at + 1 * i) s) 0 0 (omega arith) ∙ get_or-drop (at + 1 * i) s 0 0 ∙ rw (one-mul i, add-zero (at + i))

-- 18 of it
pub byte_verdict : (s : List ℕ) (start i : ℕ) → stored_verdict colours s start i ≡ last_byte01 s start i
unfolding stored_verdict last_byte01
byte_verdict s start i = unfold colours in rw (byte_at s (start + 2) i)

module _ (s : List ℕ) (e : hashed s ≡ false) where
  pub file_same : (z : Sizes) → file_verdict z s ≡ file_verdict01 z s
  unfolding file_verdict file_verdict01
  file_same z = rw (e, or_false (mark_at s 0 0x47 0x48), colours_bytes z.m)

  pub last_same : (start m : ℕ) → last_verdict s start m ≡ last_verdict01 s start m
  unfolding last_verdict last_verdict01 ending_of
  last_same start m = rw (e, first_same _ _ m (λ i h. byte_verdict s start i)) (unfold colours in refl)

  pub known_all : (c : Circuit) (ts : List Block) → unknown_verdict c ts s ≡ fine
  unfolding unknown_verdict token_verdict ending_of colours refuse
  known_all c ts = first_all _ (length c.outputs) (λ i h. rw e)

-- ---- decoding

from_suc : (i n : ℕ) (f : ℕ → ℕ) → from (suc i) n f ≡ from i n (λ k. f (suc k))
from_suc i zero f = refl
from_suc i (suc n) f = ap (◌∷◌ (f (suc i))) (from_suc (suc i) n f)

with_all : (ts : List Block) (ds : List ℕ) → decode_with01 ts ds ≡ tabulate (length ts) (λ i. decoded (colour (get_or ts i (block 0))) (get_or ds i 0))
unfolding decode_with01
with_all [] ds = refl
with_all (t ∷ ts) ds =
    ap (◌∷◌ (decoded (colour t) (get_or ds 0 0)))
    (with_all ts (drop 1 ds)
    ∙ from_cong 0 (length ts) _ _ (λ i h. ap (decoded (colour (get_or ts i (block 0)))) (get_or-drop 1 ds i 0 ∙ ap (λ (k : ℕ). get_or ds k 0) (add_comm 1 i ∙ add-one i)))
    ∙ sym (from_suc 0 (length ts) _))

pub bits_same : (c : Circuit) (ts : List Block) (s : List ℕ) → hashed s ≡ false → length ts ≡ length c.outputs → decode c ts s ≡ decode01 c ts s
unfolding decode decode01 stored_at ending_of
bits_same c ts s e many =
    rw (with_all ts (drop (length s - length c.outputs) s), many, e, colours_bytes (length c.outputs))
    (unfold colours in from_cong 0 (length c.outputs) _ _ (λ i h.
    ap (decoded (colour (get_or ts i (block 0)))) (byte_at s (length s - length c.outputs) i ∙ sym (get_or-drop (length s - length c.outputs) s i 0))))
