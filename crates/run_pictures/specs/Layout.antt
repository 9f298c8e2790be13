-- Believed: a contract of a command stands on it.
-- What is laid out in a picture: each run, and in it a box for each of its calls.
use Rattle.std.specs.Prelude.{◌≡◌, ℕ, List, map}
use Rattle.answered_calls.specs.declared.answered.AnsweredCall.{AnsweredCall}
use Rattle.run_pictures.specs.Drawn.{calls_of}
use Rattle.run_pictures.specs.declared.drawn.DrawnRun.{DrawnRun}
use Rattle.run_pictures.specs.declared.layout.CallBox.{CallBox}
use Rattle.run_pictures.specs.declared.layout.LaidRun.{LaidRun}

-- the calls of which these boxes are
abbrev pub calls_of_boxes : List CallBox → List AnsweredCall
calls_of_boxes boxes = map (λ b. b.call) boxes

-- a run is laid out under its name, with a box for each of its calls, in their order
abbrev pub drawn_of : DrawnRun → List ℕ × List AnsweredCall
drawn_of run = (run.name.now, calls_of run.calls.items)

-- the name of a run that is laid out, and the calls of its boxes
abbrev pub laid_of : LaidRun → List ℕ × List AnsweredCall
laid_of run = (run.name.now, calls_of_boxes run.boxes.items)

-- each run is laid out, in its order
abbrev pub AreLaid : List DrawnRun → List LaidRun → Type 0
AreLaid runs laid = map laid_of laid ≡ map drawn_of runs
