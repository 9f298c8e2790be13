use Rattle.lock_model.proofs.Dating.{fits_alike}
use Rattle.lock_model.proofs.CameRows.{came_is_rows, room_outside}
use Rattle.lock_model.proofs.RepliesRows.{replies_are_rows}
use Rattle.lock_model.proofs.CameOutside.{came_outside}
use Rattle.lock_model.proofs.PlainCame.{came_grows, outside_stays, over_under_came, plain_arises, plain_count}
use Rattle.lock_model.proofs.PlainCame.{plain_leads, same_under_came}
use Rattle.lock_model.proofs.outcomes_that_came.Goals as goal

pub returns-clause-alike : goal.returns-clause-alike
returns-clause-alike c = fits_alike

pub returns-clause-same : goal.returns-clause-same
returns-clause-same c = same_under_came

pub returns-clause-over : goal.returns-clause-over
returns-clause-over c = over_under_came

pub returns-clause-leads : goal.returns-clause-leads
returns-clause-leads c = plain_leads

pub returns-clause-arises : goal.returns-clause-arises
returns-clause-arises c = plain_arises

pub returns-clause-count : goal.returns-clause-count
returns-clause-count c = plain_count

pub returns-clause-grows : goal.returns-clause-grows
returns-clause-grows c = came_grows

pub returns-clause-stays : goal.returns-clause-stays
returns-clause-stays c = outside_stays

pub returns-clause-room : goal.returns-clause-room
returns-clause-room c = room_outside

pub returns-clause-rows : goal.returns-clause-rows
returns-clause-rows c = came_is_rows

pub returns-clause-replies : goal.returns-clause-replies
returns-clause-replies c = replies_are_rows

pub returns-clause-outside : goal.returns-clause-outside
returns-clause-outside c = came_outside
