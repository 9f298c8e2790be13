-- Examples of several calls, one call at a time.
use Rattle.std.proofs.Common.{◌≡◌, ℕ, List, [], ◌∷◌, Bool, None, map, refl, ap, ◌∙◌}
use Rattle.std.specs.FinMap as fin
use Rattle.sequential_object.specs.Examples.{answers_from, state_after}
use Rattle.sequential_object.specs.Object.{State, Description, Content, Node}
use Rattle.sequential_object.specs.Step.{Stepped, nothing_carried, step}
use Rattle.posix_terms.specs.declared.call.Access.{Access}
use Rattle.posix_terms.specs.Calls.{Call}
use Rattle.posix_terms.specs.declared.object.End.{End}
use Rattle.posix_terms.specs.declared.object.End.TheVariants as part
use Rattle.posix_terms.specs.declared.reply.Answer.{Answer}
use Rattle.posix_terms.specs.declared.reply.Answer.TheVariants as answer
use Rattle.posix_terms.specs.declared.reply.Reply.{Reply}
use Rattle.posix_terms.specs.declared.transcript.Settings.{Settings}

abbrev pub description_of : End → ℕ → Access → ℕ → Bool → Bool → Description
description_of which object access offset append nonblock =
    record { object = object; «end» = which; access = access; offset = offset; append = append; nonblock = nonblock }

abbrev pub description : ℕ → Access → ℕ → Bool → Bool → Description
description = description_of part.Only

-- a state by the entries of its maps
abbrev pub holding : List (ℕ × ℕ) → List (ℕ × Description) → List (ℕ × Content) → List (List (List ℕ) × Node) → ℕ → ℕ
    → State
holding descriptors descriptions objects paths next_description next_object =
    record {
      descriptors = fin.from_sorted descriptors;
      descriptions = fin.from_sorted descriptions;
      objects = fin.from_sorted objects;
      paths = fin.from_sorted paths;
      next_description = next_description;
      next_object = next_object;
    }

abbrev pub replied : State → Reply → Stepped
replied s r = record { after = s; answer = answer.Reply r; carried = nothing_carried }

-- each call is answered by its reply, and leads to the next of these states
abbrev pub Runs : Settings → State → List (Call × Reply) → List State → Type 0
Runs settings s [] [] = Unit {0}
Runs settings s [] (after ∷ states) = ⊥
Runs settings s (row ∷ rows) [] = ⊥
Runs settings s (row ∷ rows) (after ∷ states) = (step settings s row.0 None nothing_carried ≡ replied after row.1)
    × Runs settings after rows states

pub replies_of : (settings : Settings) (s : State) (rows : List (Call × Reply)) (states : List State)
    → Runs settings s rows states → answers_from settings s (map (λ (row : Call × Reply). row.0) rows)
    ≡ map (λ (row : Call × Reply). answer.Reply row.1) rows
replies_of settings s [] [] runs = refl
replies_of settings s [] (after ∷ states) runs = absurd runs
replies_of settings s (row ∷ rows) [] runs = absurd runs
replies_of settings s (row ∷ rows) (after ∷ states) runs =
    ap (λ (stepped : Stepped). stepped.answer
    ∷ answers_from settings stepped.after (map (λ (row : Call × Reply). row.0) rows)) runs.0
    ∙ ap (λ (answers : List Answer). answer.Reply row.1 ∷ answers) (replies_of settings after rows states runs.1)

-- the last of these states
abbrev pub final : State → List State → State
final s [] = s
final s (after ∷ states) = final after states

state_of : (settings : Settings) (s : State) (rows : List (Call × Reply)) (states : List State)
    → Runs settings s rows states → state_after settings s (map (λ (row : Call × Reply). row.0) rows) ≡ final s states
state_of settings s [] [] runs = refl
state_of settings s [] (after ∷ states) runs = absurd runs
state_of settings s (row ∷ rows) [] runs = absurd runs
state_of settings s (row ∷ rows) (after ∷ states) runs =
    ap (λ (stepped : Stepped). state_after settings stepped.after (map (λ (row : Call × Reply). row.0) rows)) runs.0
    ∙ state_of settings after rows states runs.1

pub left_of : {n : ℕ} (settings : Settings) (s : State) (rows : List (Call × Reply)) (states : List State)
    → Runs settings s rows states → fin.len (final s states).objects ≡ n
    → fin.len (state_after settings s (map (λ (row : Call × Reply). row.0) rows)).objects ≡ n
left_of settings s rows states runs left =
    ap (λ (after : State). fin.len after.objects) (state_of settings s rows states runs) ∙ left
