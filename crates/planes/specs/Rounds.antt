-- The rounds on planes, §5.1: what they do to a block.
use Rattle.std.specs.Prelude.{ℕ, zero, suc, ◌+◌, ◌-◌, ◌%◌, cond, List, eqb}
use Rattle.model.specs.Aes.{Block, sub_bytes, shift_rows, add_round_key, aes_round}
use Rattle.planes.specs.Sliced.{turn_by}

-- round r, be it the last or another
unfoldable pub round_of : List ℕ → ℕ → Block → Block
round_of w r s = cond (eqb r 10) (add_round_key w 10 (shift_rows (sub_bytes s))) (aes_round w r s)

-- n rounds, from round r on
unfoldable pub rounds_from : List ℕ → ℕ → ℕ → Block → Block
rounds_from w r zero s = s
rounds_from w r (suc n) s = round_of w (r + n) (rounds_from w r n s)

-- the cipher, of whose rounds before round r only ShiftRows is done
unfoldable pub cipher_from : ℕ → List ℕ → Block → Block
cipher_from r w s = rounds_from w r (11 - r) (turn_by ((r - 1) % 4) (add_round_key w 0 s))
