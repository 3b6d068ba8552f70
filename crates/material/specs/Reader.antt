-- Document 01, "Material": "A reader over the lent material goes from one marked record to the next and remembers how far it is." What stands at a place of a
-- material, and the place past it, of any bytes and for any place.
use Rattle.std.specs.Prelude.{ℕ, ◌+◌, Bool, true, false, ◌&&◌, List, length, get_or, leb, eqb}
use Rattle.model.specs.Bytes.{be16}
use Rattle.model.specs.Circuit.{mark_at}
use Rattle.model.specs.Ending.{ending_of}
use Rattle.model.specs.Material.{hashed}
use Rattle.model.specs.Scheme.{record_length}
use Rattle.model.specs.Garbling.{scheme_of}
use Rattle.material.specs.declared.reader.Standing.{Standing}
use Rattle.material.specs.declared.reader.Standing.TheVariants.{Gate, Cut, Last, Nothing}
use Rattle.material.specs.declared.reader.Record.{Record}

-- the first of two where the condition holds
abbrev pub if_so : Bool → Standing → Standing → Standing
if_so true x y = x
if_so false x y = y

-- the mark at a place, with so many bytes from the place on within the material
unfoldable pub marked : List ℕ → ℕ → ℕ → ℕ → ℕ → Bool
marked s at x y bytes = leb (at + bytes) (length s) && mark_at s at x y

-- a gate's record, where its mark stands: whole, by the material's scheme byte, or cut short by the material's end
unfoldable pub gate_standing : List ℕ → ℕ → Standing
gate_standing s at = if_so (leb (at + record_length (scheme_of (get_or s 2 0))) (length s)) (Gate (record { 0 = be16 s (at + 2) })) (Cut (record { 0 = be16 s (at + 2) }))

-- the last record, or nothing
abbrev pub last_standing : List ℕ → ℕ → Standing
last_standing s at = if_so (marked s at 0x47 (ending_of (hashed s)).last_mark 2) Last Nothing

-- a gate's record, by its mark and wire number; "Last: mark 47 44", or 47 41 where the header's mark is 47 4A (02, job 12); or neither
unfoldable pub standing_at : List ℕ → ℕ → Standing
standing_at s at = if_so (marked s at 0x47 0x54 4) (gate_standing s at) (last_standing s at)

-- the place past what stands at a place: past a gate's record, the next; past the last one, the end; nothing else is gone past
abbrev pub past_of : List ℕ → ℕ → Standing → ℕ
past_of s at (Gate w) = at + record_length (scheme_of (get_or s 2 0))
past_of s at (Cut w) = at
past_of s at Last = length s
past_of s at Nothing = at

abbrev pub past_at : List ℕ → ℕ → ℕ
past_at s at = past_of s at (standing_at s at)

-- both
abbrev pub found_record : List ℕ → ℕ → Record
found_record s at = record { standing = standing_at s at; next = past_at s at }

-- it is the record of a gate with this wire number
abbrev pub is_row_of : ℕ → Standing → Bool
is_row_of due (Gate w) = eqb w.0 due
is_row_of due (Cut w) = false
is_row_of due Last = false
is_row_of due Nothing = false
