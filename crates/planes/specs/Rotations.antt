-- Lanes moved by rotations.
use Rattle.std.specs.Prelude.{ℕ, ◌+◌, ◌%◌, ◌<◌, ◌≡◌, cond, eqb}
use Rattle.model.specs.Aes.{bit}
use Rattle.planes.specs.declared.planes.Planes.{Planes}
use Rattle.planes.specs.Lanes.{byte_at}

-- the lane n places on, around
abbrev pub around : ℕ → ℕ → ℕ
around n l = (l + n) % 64

-- n places on where the mask has a 1, m where it has a 0
abbrev pub either : ℕ → ℕ → ℕ → ℕ → ℕ
either mask n m l = cond (eqb (bit mask l) 1) (around n l) (around m l)

-- the word r has in each lane l what x has in lane f l
unfoldable pub Moves : (ℕ → ℕ) → ℕ → ℕ → Type 0
Moves f x r = (l : ℕ) → l < 64 → bit r l ≡ bit x (f l)

-- the same of planes
unfoldable pub Moved : (ℕ → ℕ) → Planes → Planes → Type 0
Moved f q r = (l : ℕ) → l < 64 → byte_at r l ≡ byte_at q (f l)
