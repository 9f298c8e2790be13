-- What comes for a call whose request is known.
use Rattle.std.proofs.Common.{◌≡◌, ◌∙◌, Option, Some, None, ap, refl, sym}
use Rattle.std.specs.Prelude.{option_map}
use Rattle.posix_terms.specs.Queries.{Query, requested_at}
use Rattle.posix_terms.specs.declared.outcome.Given.{Given}
use Rattle.posix_terms.specs.declared.request.Request.{Request}
use Rattle.posix_terms.specs.declared.transcript.Turn.{Turn}
use Rattle.fault_injection.specs.Filled.{given_for}
use Rattle.fault_injection.specs.Filling.{filling_for}
use Rattle.fault_injection.specs.declared.filling.Filling.{Filling}

-- what comes of a request
abbrev pub given_of : Filling → Request → Given
given_of filling request =
    record {
      kind = request.kind;
      clock = None;
      outcome = filling_for filling request.kind request.asked;
    }

at_each_turn : (filling : Filling) (turn : Turn) (query : Option Query)
    → option_map (given_of filling) (requested_at turn query)
    ≡ option_map (given_for filling) query
at_each_turn filling turn (Some query) = refl
at_each_turn filling turn None = refl

-- it is what comes of the query, at whatever turn that is made
pub given_alike : (filling : Filling) (turn : Turn) (query : Option Query) (request : Request)
    → requested_at turn query ≡ Some request
    → Some (given_of filling request) ≡ option_map (given_for filling) query
given_alike filling turn query request is =
    sym (ap (option_map (given_of filling)) is) ∙ at_each_turn filling turn query

-- and where there is none, nothing comes
pub none_alike : (filling : Filling) (turn : Turn) (query : Option Query)
    → requested_at turn query ≡ None
    → None ≡ option_map (given_for filling) query
none_alike filling turn query is =
    sym (ap (option_map (given_of filling)) is) ∙ at_each_turn filling turn query
