-- No float is in the lines of a log.
use Rattle.std.proofs.Common.{◌≡◌, Bool, true, false, [], ◌∷◌, Option, Some, None, codes, refl}
use Rattle.posix_terms.specs.Errors.{name_of}
use Rattle.posix_terms.specs.declared.outcome.Outcome.{Outcome}
use Rattle.posix_terms.specs.declared.outcome.Outcome.TheVariants as outcome
use Rattle.serde_json.specs.Data.{string}
use Rattle.serde_json.specs.Written.{has_float}
use Rattle.input_log.specs.declared.log.Header.{Header}
use Rattle.input_log.specs.declared.log.Record.{Record}
use Rattle.command_texts.specs.LogTexts.{request_word}
use Rattle.json_views.specs.Logs.{header_value, log_end_value, outcome_value, record_value}
use Rattle.json_views.specs.Objects.{count_value, hex_value, optional_value}
use Rattle.json_views.specs.declared.logs.Tear.{Tear}
use Rattle.json_views.proofs.Exact.{object_exact, optional_exact}

pub header_exact : (header : Header) → has_float (header_value header) ≡ false
header_exact header = object_exact (
    (codes "version", count_value header.version)
    ∷ (codes "threads", count_value header.threads)
    ∷ (codes "patience", count_value header.patience)
    ∷ (codes "door_cost", count_value header.door_cost)
    ∷ [])
    (refl, (refl, (refl, (refl, tt))))

outcome_exact : (o : Outcome) → has_float (outcome_value o) ≡ false
outcome_exact (outcome.Ok value bytes) =
    object_exact ((codes "value", count_value value) ∷ (codes "bytes", hex_value bytes) ∷ []) (refl, (refl, tt))
outcome_exact (outcome.Fail error) = object_exact ((codes "fail", string (name_of error)) ∷ []) (refl, tt)

pub record_exact : (r : Record) → has_float (record_value r) ≡ false
record_exact r = object_exact (
    (codes "thread", count_value r.thread)
    ∷ (codes "number", count_value r.number)
    ∷ (codes "kind", string (request_word r.kind))
    ∷ (codes "clock", optional_value r.clock)
    ∷ (codes "outcome", outcome_value r.outcome)
    ∷ [])
    (refl, (refl, (refl, (optional_exact r.clock, (outcome_exact r.outcome, tt)))))

torn_exact : (tear : Tear) → has_float (log_end_value true (Some tear)) ≡ false
torn_exact tear = object_exact (
    (codes "end", string (codes "torn"))
    ∷ (codes "place", count_value tear.place)
    ∷ (codes "records", count_value tear.records)
    ∷ [])
    (refl, (refl, (refl, tt)))

pub log_end_exact : (closed : Bool) (tear : Option Tear) → has_float (log_end_value closed tear) ≡ false
log_end_exact true None = object_exact ((codes "end", string (codes "end")) ∷ []) (refl, tt)
log_end_exact false None = object_exact ((codes "end", string (codes "open")) ∷ []) (refl, tt)
log_end_exact true (Some tear) = torn_exact tear
log_end_exact false (Some tear) = torn_exact tear
