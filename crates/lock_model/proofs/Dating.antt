-- An outcome that comes has the clock of its call's turn, whether what was given had it or none.
use Rattle.lock_model.specs.Came.{FitsAlike}
use Rattle.std.proofs.lemmas.Option.{slice_get-map, none-some, same_Some}
use Rattle.std.proofs.Common.{◌≡◌, ◌⊎◌, ℕ, List, slice_get, map, option_map, Option, Some, None, Bool, true, ◌&&◌, refl}
use Rattle.std.proofs.Common.{ap, ap₂, ◌∙◌, inl, inr, ⊎_elim, [], ◌∷◌, zero, suc}
use Rattle.std.proofs.lemmas.Bool.{eq-eqb, eqb-true, and_parts}
use Rattle.lock_model.specs.CallTable.{CallTable}
use Rattle.lock_model.specs.Machine.{fits_job}
use Rattle.lock_model.specs.Runs.{Becomes, Keeps, Supplies}
use Rattle.lock_model.specs.State.{Job}
use Rattle.posix_terms.specs.Outcomes.{dated, is_at, undated}
use Rattle.posix_terms.specs.declared.outcome.Given.{Given}
use Rattle.posix_terms.specs.declared.transcript.Turn.{Turn}

pub becomes_itself : (o : Given) → Becomes o o
becomes_itself o = record { same = refl; clock = inr refl }

pub becomes_trans : (g o p : Given) → Becomes g o → Becomes o p → Becomes g p
becomes_trans g o p h k =
    record {
      same = h.same ∙ k.same;
      clock =
          ⊎_elim (λ (none : g.clock ≡ None). inl none)
          (λ (is : g.clock ≡ o.clock).
          ⊎_elim (λ (none : o.clock ≡ None). inl (is ∙ none)) (λ (so : o.clock ≡ p.clock). inr (is ∙ so)) k.clock)
          h.clock;
    }

-- what belongs to a turn becomes what has its clock
pub becomes_dated : (turn : Turn) (o : Given) → is_at turn o.clock ≡ true → Becomes o (dated turn o)
becomes_dated turn o at = record { same = refl; clock = by_clock o.clock at }
  where
    by_clock : (clock : Option ℕ) → is_at turn clock ≡ true → (clock ≡ None) ⊎ (clock ≡ Some turn.clock)
    by_clock None at = inl refl
    by_clock (Some c) at = inr (ap Some (eqb-true c turn.clock at))

-- what becomes an outcome of a turn belongs to it
becomes_at : (turn : Turn) (g o : Given) → Becomes g o → is_at turn o.clock ≡ true → is_at turn g.clock ≡ true
becomes_at turn g o h at =
    ⊎_elim (λ (none : g.clock ≡ None). ap (is_at turn) none)
    (λ (is : g.clock ≡ o.clock). ap (is_at turn) is ∙ at)
    h.clock

-- it comes as the same
pub dated_alike : (turn : Turn) (g o : Given) → Becomes g (dated turn o) → dated turn g ≡ dated turn o
dated_alike turn g o h = ap (dated turn) h.same

pub fits_alike : FitsAlike
fits_alike calls job g o h fits =
    let parts = and_parts (calls.fits (calls.asks job.found job.call job.carried) (undated o)) (is_at job.turn o.clock)
    fits in
    ap₂ (λ (a b : Bool). a && b)
    (ap (calls.fits (calls.asks job.found job.call job.carried)) h.same ∙ parts.0)
    (becomes_at job.turn g o h parts.1)

pub dated_fits : (calls : CallTable) (job : Job) (o : Given) → fits_job calls job o ≡ true
    → fits_job calls job (dated job.turn o) ≡ true
dated_fits calls job o fits =
    let parts = and_parts (calls.fits (calls.asks job.found job.call job.carried) (undated o)) (is_at job.turn o.clock)
    fits in
    ap₂ (λ (a b : Bool). a && b) parts.0 (eq-eqb job.turn.clock job.turn.clock refl)

-- an outcome that fits at its turn becomes what comes
pub fitting_becomes : (calls : CallTable) (job : Job) (o : Given) → fits_job calls job o ≡ true
    → Becomes o (dated job.turn o)
fitting_becomes calls job o fits =
    becomes_dated job.turn o (and_parts (calls.fits (calls.asks job.found job.call job.carried) (undated o))
    (is_at job.turn o.clock) fits).1

-- a list supplies what stands in it
pub supplies_itself : (list : List Given) (n : ℕ) (o : Given) → slice_get list n ≡ Some o → Supplies list n o
supplies_itself list n o at = (o, at, becomes_itself o)

pub supplies_later : (list : List Given) (n : ℕ) (o p : Given) → Supplies list n o → Becomes o p → Supplies list n p
supplies_later list n o p (g, at, is) h = (g, at, becomes_trans g o p is h)

-- what is kept of a list supplies it
pub supplies_kept : (kept : Given → Given) → Keeps kept → (came : List Given) (n : ℕ) (o : Given)
    → slice_get came n ≡ Some o → Supplies (map kept came) n o
supplies_kept kept keeps came n o at = (kept o, slice_get-map kept came n ∙ ap (option_map kept) at, keeps o)

-- and each that stands there is of one that came
pub kept_at : (kept : Given → Given) (came : List Given) (n : ℕ) (o : Given) → slice_get (map kept came) n ≡ Some o
    → (p : Given) × (slice_get came n ≡ Some p) × (kept p ≡ o)
kept_at kept [] n o at = absurd (none-some o at)
kept_at kept (p ∷ came) zero o at = (p, refl, same_Some (kept p) o at)
kept_at kept (p ∷ came) (suc n) o at = kept_at kept came n o at
