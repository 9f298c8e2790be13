-- What objects hold after a change: what they held, but for an object that is made.
use Rattle.std.proofs.Common.{◌≡◌, ◌⊎◌, ℕ, [], Option, Some, None, Bool, inl, inr, refl, subst}
use Rattle.std.proofs.lemmas.Bool.{cond_both}
use Rattle.std.specs.FinMap as fin
use Rattle.std.specs.Prelude.{◌||◌, pos}
use Rattle.sequential_object.specs.Descriptors as posix
use Rattle.sequential_object.specs.Object.{State, Content, Description, File, Pair, Pipe}
use Rattle.sequential_object.specs.Streams.{new_pair}
use Rattle.posix_terms.specs.Calls.{Call}
use Rattle.sequential_object.specs.Changes.{changed, closed, flagged, renamed, without_lost, without_name}
use Rattle.sequential_object.specs.declared.decision.Change.{Change}
use Rattle.sequential_object.specs.declared.decision.Change.TheVariants as change
use Rattle.call_turns.proofs.Found.{got_less, put_at}

-- an object that was there holds what it held
abbrev pub Kept : State → State → Type 0
Kept s after = (b : ℕ) (content : Content) → fin.get after.objects b ≡ Some content → fin.get s.objects b ≡ Some content

-- or it is made, and holds what its change says
abbrev pub MadeBy : Change → Content → Type 0
MadeBy (change.MakeFile new) content = content ≡ File []
MadeBy (change.MakePipe new) content = content ≡ Pipe []
MadeBy (change.MakeSockets new) content = content ≡ Pair new_pair
MadeBy x content = ⊥

abbrev pub CameBy : State → Change → ℕ → Content → Type 0
CameBy s x b content = (fin.get s.objects b ≡ Some content) ⊎ ((b ≡ s.next_object) × MadeBy x content)

kept_unused : (s a : State) (object : ℕ) → Kept s a → Kept s (posix.without_unused a object)
kept_unused s a object kept =
    cond_both (posix.has_description a object || posix.has_path a object) _ _ (Kept s) (λ used. kept)
    (λ gone b content is. kept b content (got_less a.objects object b content is))

kept_closed : (s : State) (n key : ℕ) (d : Option Description) → Kept s (closed s n key d)
kept_closed s n key None = λ b content is. is
kept_closed s n key (Some d) =
    cond_both (posix.has_descriptor (posix.freed s (pos n)) key) _ _ (Kept s) (λ held b content is. is)
    (λ free. kept_unused s (record (posix.freed s (pos n)) { descriptions = fin.remove s.descriptions key }) d.object
    (λ b content is. is))

kept_flagged : (s : State) (key : ℕ) (append nonblock : Bool) (d : Option Description)
    → Kept s (flagged s key append nonblock d)
kept_flagged s key append nonblock None b content is = is
kept_flagged s key append nonblock (Some d) b content is = is

kept_lost : (s a : State) (lost : Option ℕ) → Kept s a → Kept s (without_lost a lost)
kept_lost s a None kept = kept
kept_lost s a (Some object) kept = kept_unused s a object kept

-- an object that is made
made : (s : State) (content : Content) (x : Change) → MadeBy x content → (b : ℕ) (c : Content)
    → fin.get (fin.insert s.objects s.next_object content) b ≡ Some c → CameBy s x b c
made s content x by b c is =
    elim (put_at s.objects s.next_object content b c is) [
      | inl new ↦ inr (new.0, subst (MadeBy x) new.1 by)
      | inr old ↦ inl old.1
    ]

pub contents_stay : (s : State) (c : Call) (x : Change) (b : ℕ) (content : Content)
    → fin.get (changed s c x).objects b ≡ Some content → CameBy s x b content
contents_stay s c change.Nothing b content is = inl is
contents_stay s c (change.Share n key) b content is = inl is
contents_stay s c (change.Close n key) b content is =
    inl (kept_closed s n key (fin.get s.descriptions key) b content is)
contents_stay s c (change.Replace n old_key key) b content is =
    inl (kept_closed s n old_key (fin.get s.descriptions old_key) b content is)
contents_stay s c (change.SetFlags key append nonblock) b content is =
    inl (kept_flagged s key append nonblock (fin.get s.descriptions key) b content is)
contents_stay s c (change.AddFile object) b content is = inl is
contents_stay s c change.AddDirectory b content is = inl is
contents_stay s c (change.RemoveFile object) b content is =
    inl (kept_unused s (without_name s c) object (λ b content is. is) b content is)
contents_stay s c change.RemoveDirectory b content is = inl is
contents_stay s c (change.Rename object lost) b content is =
    inl (kept_lost s (renamed s c object) lost (λ b content is. is) b content is)
contents_stay s c (change.OpenFile new) b content is = inl is
contents_stay s c (change.MakeFile new) b content is = made s (File []) (change.MakeFile new) refl b content is
contents_stay s c (change.MakePipe new) b content is = made s (Pipe []) (change.MakePipe new) refl b content is
contents_stay s c (change.MakeSockets new) b content is = made s (Pair new_pair) (change.MakeSockets new) refl b content
    is
