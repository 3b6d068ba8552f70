-- One gate, of any kind and under any scheme: what garbling writes of it, evaluation opens to the token of its value. Assumes nothing.
use Prim.Native.Nat.{ℕ, ◌*◌}
use mathlib.Core.Path.{◌≡◌, refl}
use mathlib.Core.List.{List, ◌++◌}
use lib.ListN.{length}
use lib.Seq.{drop_at, drop-drop}
use Rattle.model.specs.Circuit.{Kind, charged, free, refused, kind_of, value}
use Rattle.model.specs.Aes.{Block}
use Rattle.model.specs.Tokens.{Garbling, free_zero, free_token}
use Rattle.model.specs.Scheme.{Site, Scheme, record_length}
use Rattle.model.specs.Garbling.{scheme_of, zero_at}
use Rattle.model.specs.Material.{join_blocks, record_of}
use Rattle.model.specs.Evaluation.{open_at, past}
use Rattle.model.proofs.Bits.{Bit}
use Rattle.model.proofs.Xor.{⊕_length}
use Rattle.model.proofs.Tokens.{Offset, token_for, block_length}
use Rattle.model.proofs.Codes.{Means, code_means, free_table_at, Used, used_charged, used_free, Charged, is_charged_kind}
use Rattle.model.proofs.Blocks.{join_length, cut_join_append}
use Rattle.model.proofs.FreeGates.{free_gate_evaluates}
use Rattle.model.proofs.Sound.{Sound}
use Rattle.model.proofs.Schemes.{scheme_sound}

-- ---- widths

pub open_at_wide : (S : Scheme) → Sound S → (k : Kind) (g : ℕ) (bs : List ℕ) (A B : Block) → length (open_at S k g bs A B) ≡ 16
unfolding open_at free_token
open_at_wide S sound (charged u v x) g bs A B = sound.opened_wide g _ A B
open_at_wide S sound (free p q c) g bs A B = ⊕_length _ _
open_at_wide S sound refused g bs A B = block_length 0

module _ (γ : Garbling) where
  abbrev S : Scheme
  S = scheme_of γ.scheme

  sound : Sound S
  sound = scheme_sound γ.scheme

  pub zero_at_wide : (k : Kind) (s : Site) → length s.fresh ≡ 16 → length (zero_at γ k s) ≡ 16
  unfolding zero_at free_zero
  zero_at_wide (charged u v x) s h = sound.zero_wide s h
  zero_at_wide (free p q c) s h = ⊕_length _ _
  zero_at_wide refused s h = block_length 0

  -- ---- the gate's record

  -- past it stands what comes after it
  pub past_record : (k : Kind) (s : Site) (rest : List ℕ) → past S k (record_of γ k s ++ rest) ≡ rest
  unfolding past record_of record_length
  past_record (charged u v x) s rest =
      rw (← drop-drop (16 * S.stored) 4) (drop_at (join_blocks (S.rows s)) rest (16 * S.stored) (join_length (sound.rows_wide s)))
  past_record (free p q c) s rest = refl
  past_record refused s rest = refl

  -- by the gate's kind k and its table f
  kind_evaluates : (k : Kind) (s : Site) (f : ℕ → ℕ → ℕ) (rest : List ℕ) (u v : ℕ) → Means f k → Used k → Bit u → Bit v
      → (Charged k
      → S.opened s.g (S.rows s) (token_for s.R s.Xa u) (token_for s.R s.Xb v) ≡ token_for s.R (S.zero_token s) (f u v))
      → open_at S k s.g (record_of γ k s ++ rest) (token_for s.R s.Xa u) (token_for s.R s.Xb v)
      ≡ token_for s.R (zero_at γ k s) (f u v)
  unfolding open_at record_of zero_at
  kind_evaluates _ s f rest u v m used_charged p q h = rw (cut_join_append (sound.rows_wide s) rest, open_at) (h is_charged_kind)
  kind_evaluates _ s f rest u v m used_free p q h =
      rw (free_table_at m p q) (free_gate_evaluates s.R s.Xa s.Xb m.bit_p m.bit_q m.bit_c p q)

  -- Holding the operands' tokens for u and v, evaluation leaves the gate's token for its value at u and v.
  pub gate_evaluates : (s : Site) (rest : List ℕ) (u v : ℕ) → Offset s.R → Used (kind_of s.code) → Bit u → Bit v
      → open_at S (kind_of s.code) s.g (record_of γ (kind_of s.code) s ++ rest) (token_for s.R s.Xa u) (token_for s.R s.Xb v)
      ≡ token_for s.R (zero_at γ (kind_of s.code) s) (value s.code u v)
  gate_evaluates s rest u v o h p q =
      kind_evaluates (kind_of s.code) s (value s.code) rest u v (code_means s.code) h p q (λ c. sound.opens s u v o c p q)
