-- What garble is asked for. Assumes nothing.
use Prim.Native.Nat.{ℕ}
use mathlib.Core.Path.{◌≡◌, refl}
use mathlib.Core.List.{List}
use lib.Dec.{eqb}
use Rattle.model.specs.Circuit.{circuit_of}
use Rattle.model.specs.Tokens.{garbling_of}

-- what a run number, a scheme byte and a mark ask for is the garbling of that run by that scheme, with hashes where the mark is 47 4A
pub wanted_garbling : (c seed : List ℕ) (run scheme mark : ℕ)
    → garbling_of c seed (record { run = run; scheme = scheme; mark = mark }) ≡ record { circuit = circuit_of c; seed = seed; run = run; scheme = scheme; hashed = eqb mark 0x474A }
wanted_garbling c seed run scheme mark = refl
