use Rattle.model.proofs.Verdicts.{steps, ran_passed}
use Rattle.garble.specs.Answers.{rooms_verdict}
use Rattle.garble.proofs.GarbleIsLaws.{room_made}
use Rattle.garble.proofs.arguments.check_rooms.Goals as goal

pub returns-in_err-check_room : goal.returns-in_err-check_room
unfolding rooms_verdict
returns-in_err-check_room c = ran_passed _ _ c.from_residual.ensures.1 _ (search (steps, room_made _ _ _ _ c.file_length.ensures c.in_err-check_room.ensures) depth 8)

pub returns-in_err-check_room-2 : goal.returns-in_err-check_room-2
unfolding rooms_verdict
returns-in_err-check_room-2 c = ran_passed _ _ c.from_residual-in_err-check_room-2.ensures.1 _
    (search (steps, room_made _ _ _ _ c.file_length.ensures c.in_ok-check_room.ensures, c.in_err-check_room-2.ensures) depth 8)

pub returns : goal.returns
unfolding rooms_verdict
returns c = search (steps, room_made _ _ _ _ c.file_length.ensures c.in_ok-check_room.ensures, c.in_ok-check_room-2.ensures) depth 8
