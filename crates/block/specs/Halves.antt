-- A block as a 128-bit number in two words. Document 01, "AES and doubling".
use Rattle.std.specs.Prelude.{◌++◌}
use Rattle.model.specs.Bytes.{bytes_of}
use Rattle.model.specs.Aes.{Block}
use Rattle.block.specs.declared.halves.Halves.{Halves}

-- the block of two halves, each 8 bytes, the highest first
unfoldable pub block_of : Halves → Block
block_of h = bytes_of 8 h.high ++ bytes_of 8 h.low
