use Rattle.planes.specs.Sliced.{IsSliced}
use Rattle.planes.proofs.Rounds.{encrypts}
use Rattle.planes.proofs.cipher.encrypt_four.Goals as goal

pub returns : goal.returns
unfolding IsSliced
returns c ws sliced = encrypts (c.cipher_from.ensures ws sliced)
