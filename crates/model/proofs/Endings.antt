-- What each ending is right in, at one output: how many bytes are stored of it, that they are allowed, and that a token which the output's wire can
-- hold is known by them and decodes to what it carries. Assumes nothing.
use Prim.Native.Nat.{ℕ, ◌≤◌}
use native.Mathlib.Omega.{arith}
use mathlib.Core.Path.{◌≡◌, refl, sym, ◌∙◌}
use mathlib.Core.Bool.{Bool, true, false, cond, ◌||◌}
use mathlib.Core.List.{List, [], ◌++◌, append-nil}
use borrow.Author.Tests.{le-ltb}
use lib.ListN.{length, length-append}
use lib.Seq.{take_at, drop_at}
use Rattle.model.specs.Bytes.{equal_bytes}
use Rattle.model.specs.Aes.{Block, ◌⊕◌}
use Rattle.model.specs.Tokens.{colour}
use Rattle.model.specs.Hashes.{answered, hash}
use Rattle.model.specs.Ending.{Ending, output_tweak, agrees, first_hash, second_hash, colours, hashes, ending_of}
use Rattle.model.proofs.Bits.{Bit, b0, b1}
use Rattle.model.proofs.Equal.{equal_self, unequal, not_equal}
use Rattle.model.proofs.Verdicts.{or_true}
use Rattle.model.proofs.Xor.{⊕_length}
use Rattle.model.proofs.Tokens.{Offset, token_for, token_zero, token_one}
use Rattle.model.proofs.Holds.{Holds, holds_colours}

pub record Right (E : Ending) : Type 0 where
  pub long : (k : ℕ) (X Y : Block) → length (E.stored k X Y) ≡ E.size
  pub lets : (k : ℕ) (X Y : Block) → E.wrong (E.stored k X Y) ≡ false
  pub knows : {R : Block} → Offset R → {v : ℕ} {X t : Block} → Holds R v X t → (k : ℕ) → E.unknown k t (E.stored k X (X ⊕ R)) ≡ false
  pub tells : {R : Block} → Offset R → {v : ℕ} {X t : Block} → Holds R v X t → (k : ℕ)
      → E.clash (E.stored k X (X ⊕ R)) ≡ false → E.bit k t (E.stored k X (X ⊕ R)) ≡ v

-- ---- colours

colour_low : (t : Block) → colour t ≤ 1
unfolding colour
colour_low t = omega arith

right_colours : Right colours
unfolding colours
right_colours = record {
  long = λ k X Y. refl;
  lets = λ k X Y. le-ltb _ _ (colour_low X);
  knows = λ o h k. refl;
  tells = λ o h k e. holds_colours o h;
}

-- ---- hashes

pub hash_wide : (x : Block) (i : ℕ) → length (hash x i) ≡ 16
unfolding hash answered
hash_wide x i = ⊕_length _ _

-- two hashes, one after the other
module _ (a b : List ℕ) (la : length a ≡ 16) where
  pub first_hash_law : first_hash (a ++ b) ≡ a
  unfolding first_hash
  first_hash_law = take_at a b 16 la

  pub second_hash_law : length b ≡ 16 → second_hash (a ++ b) ≡ b
  unfolding second_hash
  second_hash_law lb = rw (drop_at a b 16 la) (rw append-nil at (take_at b [] 16 lb))

-- a token t that carries v on the wire of zero token X, and the hashes of the wire's two tokens by a tweak
module _ {R : Block} {v : ℕ} {X t : Block} (h : Holds R v X t) (i : ℕ) where
  hash_knows : (equal_bytes (hash t i) (hash X i) || equal_bytes (hash t i) (hash (X ⊕ R) i)) ≡ true
  hash_knows = go h.bit h.token
    where
      go : {v : ℕ} → Bit v → t ≡ token_for R X v → (equal_bytes (hash t i) (hash X i) || equal_bytes (hash t i) (hash (X ⊕ R) i)) ≡ true
      go b0 e = rw (e, token_zero R X h.wide, equal_self (hash X i))
      go b1 e = rw (e, token_one R X, equal_self (hash (X ⊕ R) i)) (or_true (equal_bytes (hash (X ⊕ R) i) (hash X i)))

  hash_tells : equal_bytes (hash X i) (hash (X ⊕ R) i) ≡ false → cond (equal_bytes (hash t i) (hash X i)) 0 1 ≡ v
  hash_tells apart = go h.bit h.token
    where
      go : {v : ℕ} → Bit v → t ≡ token_for R X v → cond (equal_bytes (hash t i) (hash X i)) 0 1 ≡ v
      go b0 e = rw (e, token_zero R X h.wide, equal_self (hash X i))
      go b1 e = rw (e, token_one R X, unequal (hash (X ⊕ R) i) (hash X i) (λ f. not_equal _ _ apart (sym f)))

-- what is stored of an output, read as two hashes
module _ (k : ℕ) (X Y : Block) where
  pub stored_first : first_hash (hashes.stored k X Y) ≡ hash X (output_tweak k)
  unfolding hashes
  stored_first = first_hash_law (hash X (output_tweak k)) (hash Y (output_tweak k)) (hash_wide X (output_tweak k))

  pub stored_second : second_hash (hashes.stored k X Y) ≡ hash Y (output_tweak k)
  unfolding hashes
  stored_second = second_hash_law (hash X (output_tweak k)) (hash Y (output_tweak k)) (hash_wide X (output_tweak k)) (hash_wide Y (output_tweak k))

right_hashes : Right hashes
unfolding hashes agrees
right_hashes = record {
  long = λ k X Y. length-append (hash X (output_tweak k)) (hash Y (output_tweak k)) ∙ omega (arith, hash_wide X (output_tweak k), hash_wide Y (output_tweak k));
  lets = λ k X Y. refl;
  knows = λ {R} o {v} {X} {t} h k. rw (stored_first k X (X ⊕ R), stored_second k X (X ⊕ R), hash_knows h (output_tweak k));
  tells = λ {R} o {v} {X} {t} h k e. rw (stored_first k X (X ⊕ R)) (hash_tells h (output_tweak k) (rw (stored_first k X (X ⊕ R), stored_second k X (X ⊕ R)) at e));
}

-- ---- either

pub right : (b : Bool) → Right (ending_of b)
unfolding ending_of
right true = right_hashes
right false = right_colours
