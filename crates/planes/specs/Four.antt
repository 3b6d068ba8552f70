-- Four blocks, enciphered.
use Rattle.std.specs.Prelude.{ℕ, ◌≡◌, List}
use Rattle.model.specs.Aes.{cipher}
use Rattle.planes.specs.declared.packing.Four.{Four}
use Rattle.planes.specs.Rounds.{cipher_from}

-- each by the cipher from round r on, under a schedule of its own
pub record FourFrom (r : ℕ) (ws : ℕ → List ℕ) (x y : Four) : Type 0 where
  pub is_a : y.a.bytes ≡ cipher_from r (ws 0) x.a.bytes
  pub is_b : y.b.bytes ≡ cipher_from r (ws 1) x.b.bytes
  pub is_c : y.c.bytes ≡ cipher_from r (ws 2) x.c.bytes
  pub is_d : y.d.bytes ≡ cipher_from r (ws 3) x.d.bytes

-- each by the cipher
pub record FourIs (ws : ℕ → List ℕ) (x y : Four) : Type 0 where
  pub is_a : y.a.bytes ≡ cipher (ws 0) x.a.bytes
  pub is_b : y.b.bytes ≡ cipher (ws 1) x.b.bytes
  pub is_c : y.c.bytes ≡ cipher (ws 2) x.c.bytes
  pub is_d : y.d.bytes ≡ cipher (ws 3) x.d.bytes
