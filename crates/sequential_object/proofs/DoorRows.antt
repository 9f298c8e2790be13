-- The states between the calls of the examples that go outside.
use Rattle.std.proofs.Common.{◌≡◌, ℕ, Bool, List, [], ◌∷◌, map, true, false, codes, refl, ap, ap₂, ◌∙◌, rules}
use Rattle.std.specs.Prelude.{is_some}
use Rattle.std.specs.Str.{is_utf8}
use Rattle.std.proofs.lemmas.Str.{IsUtf8-from_ascii, is_utf8-from_IsUtf8}
use Rattle.sequential_object.specs.Descriptors.{lowest_from}
use Rattle.sequential_object.specs.Doors.{host_open_decided, port_decided, tcp_accept_decided}
use Rattle.sequential_object.specs.Duplicates.{dup_decided, dup2_decided}
use Rattle.sequential_object.specs.Meant.{seen}
use Rattle.sequential_object.specs.Opening.{close_decided, open_decided}
use Rattle.sequential_object.specs.Sockets.{shutdown_decided}
use Rattle.sequential_object.specs.Status.{fstat_decided, getfl_decided, setfl_decided}
use Rattle.sequential_object.specs.Transfers.{lseek_decided, read_decided, write_decided}
use Rattle.sequential_object.specs.DoorExamples.{CallTurn, TurnsAnswer, Visit, appended_host_file, asked_from}
use Rattle.sequential_object.specs.DoorExamples.{turns_from, impatient_door, missing_host_file, no_bytes_of_a_door}
use Rattle.sequential_object.specs.DoorExamples.{over_loopback, patient_door, shared_door, short_host_write}
use Rattle.sequential_object.specs.DoorExamples.{asked_in_turn, visits_from, would_block}
use Rattle.sequential_object.specs.Object.{State, Description, DoorTo, File, FileNode, empty_state}
use Rattle.sequential_object.specs.Paths.{path_form}
use Rattle.sequential_object.specs.Step.{Carried, Stepped, asks, nothing_carried, nothing_moved, step}
use Rattle.posix_terms.specs.declared.call.Access.TheVariants as access
use Rattle.posix_terms.specs.declared.object.Door.{Door}
use Rattle.posix_terms.specs.declared.object.Door.TheVariants as door
use Rattle.posix_terms.specs.declared.object.End.TheVariants as part
use Rattle.posix_terms.specs.declared.reply.Answer.{Answer}
use Rattle.posix_terms.specs.declared.reply.Answer.TheVariants as answer
use Rattle.posix_terms.specs.declared.transcript.Settings.{Settings}
use Rattle.sequential_object.proofs.Chains.{description, description_of, holding, replied}
use Rattle.sequential_object.proofs.Listed.{listed}

-- each call is answered by its reply, and leads to the next of these states
abbrev pub Leads : Settings → State → List Visit → List State → Type 0
Leads settings s [] [] = Unit {0}
Leads settings s [] (after ∷ states) = ⊥
Leads settings s (v ∷ visits) [] = ⊥
Leads settings s (v ∷ visits) (after ∷ states) =
    (step settings s v.call v.outcome nothing_carried ≡ replied after v.reply)
    × (is_some (asks s v.call nothing_carried) ≡ is_some v.outcome) × Leads settings after visits states

pub visits_of : (settings : Settings) (s : State) (visits : List Visit) (states : List State)
    → Leads settings s visits states → visits_from settings s visits ≡ map (λ (v : Visit). answer.Reply v.reply) visits
visits_of settings s [] [] leads = refl
visits_of settings s [] (after ∷ states) leads = absurd leads
visits_of settings s (v ∷ visits) [] leads = absurd leads
visits_of settings s (v ∷ visits) (after ∷ states) leads =
    ap (λ (stepped : Stepped). stepped.answer ∷ visits_from settings stepped.after visits) leads.0
    ∙ ap (λ (answers : List Answer). answer.Reply v.reply ∷ answers) (visits_of settings after visits states leads.2)

pub asked_of : (settings : Settings) (s : State) (visits : List Visit) (states : List State)
    → Leads settings s visits states → asked_from settings s visits ≡ map (λ (v : Visit). is_some v.outcome) visits
asked_of settings s [] [] leads = refl
asked_of settings s [] (after ∷ states) leads = absurd leads
asked_of settings s (v ∷ visits) [] leads = absurd leads
asked_of settings s (v ∷ visits) (after ∷ states) leads =
    ap₂ (λ (b : Bool) (stepped : Stepped). b ∷ asked_from settings stepped.after visits) leads.1 leads.0
    ∙ ap (λ (bs : List Bool). is_some v.outcome ∷ bs) (asked_of settings after visits states leads.2)

out-utf8 : is_utf8 (codes "out") ≡ true
out-utf8 = is_utf8-from_IsUtf8 (codes "out") (IsUtf8-from_ascii (codes "out") (search rules))

nofile-utf8 : is_utf8 (codes "nofile") ≡ true
nofile-utf8 = is_utf8-from_IsUtf8 (codes "nofile") (IsUtf8-from_ascii (codes "nofile") (search rules))

abbrev host_1 : State
host_1 = holding ((0, 0) ∷ []) ((0, description_of (part.Door door.HostFile) 0 access.WriteOnly 0 false false) ∷ [])
    ((0, DoorTo door.HostFile) ∷ []) [] 1 1

abbrev pub short_states : List State
short_states = host_1 ∷ host_1 ∷ host_1 ∷ []

pub short : (settings : Settings) → Leads settings empty_state short_host_write short_states
unfolding seen host_open_decided lowest_from write_decided
short settings = (
  simp (listed, out-utf8),
  simp (listed, out-utf8),
  (simp listed, simp listed, (simp listed, simp listed, tt)),
)

abbrev file_1 : State
file_1 = holding ((0, 0) ∷ []) ((0, description 0 access.ReadWrite 0 false false) ∷ []) ((0, File []) ∷ [])
    ((codes "b" ∷ [], FileNode 0) ∷ []) 1 1

abbrev pub missing_states : List State
missing_states = empty_state ∷ file_1 ∷ []

pub missing : (settings : Settings) → Leads settings empty_state missing_host_file missing_states
unfolding seen host_open_decided open_decided lowest_from path_form
missing settings = (simp (listed, nofile-utf8), simp (listed, nofile-utf8), (simp listed, simp listed, tt))

abbrev at_door : ℕ → Door → Description
at_door object d = description_of (part.Door d) object access.ReadWrite 0 false false

abbrev net_1 : State
net_1 = holding ((0, 0) ∷ []) ((0, at_door 0 (door.Listener 40000)) ∷ []) ((0, DoorTo (door.Listener 40000)) ∷ []) [] 1
    1

abbrev net_2 : State
net_2 =
    holding ((0, 0) ∷ (1, 1) ∷ []) ((0, at_door 0 (door.Listener 40000)) ∷ (1, at_door 1 door.Stream) ∷ [])
    ((0, DoorTo (door.Listener 40000)) ∷ (1, DoorTo door.Stream) ∷ []) [] 2 2

abbrev net_3 : State
net_3 =
    holding ((0, 0) ∷ (1, 1) ∷ (2, 2) ∷ []) ((0, at_door 0 (door.Listener 40000)) ∷ (1, at_door 1 door.Stream)
    ∷ (2, at_door 2 door.Stream) ∷ [])
    ((0, DoorTo (door.Listener 40000)) ∷ (1, DoorTo door.Stream) ∷ (2, DoorTo door.Stream) ∷ []) [] 3 3

abbrev net_4 : State
net_4 =
    holding ((1, 1) ∷ (2, 2) ∷ []) ((1, at_door 1 door.Stream) ∷ (2, at_door 2 door.Stream) ∷ [])
    ((1, DoorTo door.Stream) ∷ (2, DoorTo door.Stream) ∷ []) [] 3 3

abbrev pub net_states : List State
net_states = net_1 ∷ net_1 ∷ net_1 ∷ net_2 ∷ net_3 ∷ net_3 ∷ net_3 ∷ net_3 ∷ net_3 ∷ net_3 ∷ net_4 ∷ net_4 ∷ net_4 ∷ []

pub net : (settings : Settings) → Leads settings empty_state over_loopback net_states
unfolding seen port_decided tcp_accept_decided lowest_from fstat_decided read_decided write_decided shutdown_decided
    dup2_decided close_decided
net settings = (
  simp listed,
  simp listed,
  (
    simp listed,
    simp listed,
    (
      simp listed,
      simp listed,
      (
        simp listed,
        simp listed,
        (
          simp listed,
          simp listed,
          (
            simp listed,
            simp listed,
            (
              simp listed,
              simp listed,
              (
                simp listed,
                simp listed,
                (
                  simp listed,
                  simp listed,
                  (
                    simp listed,
                    simp listed,
                    (simp listed, simp listed, (simp listed, simp listed, (simp listed, simp listed, tt))),
                  ),
                ),
              ),
            ),
          ),
        ),
      ),
    ),
  ),
)

abbrev out_at : ℕ → Description
out_at object = description_of (part.Door door.HostFile) object access.WriteOnly 0 false false

abbrev shared_1 : State
shared_1 = holding ((0, 0) ∷ []) ((0, out_at 0) ∷ []) ((0, DoorTo door.HostFile) ∷ []) [] 1 1

abbrev shared_2 : State
shared_2 = holding ((0, 0) ∷ (1, 0) ∷ []) ((0, out_at 0) ∷ []) ((0, DoorTo door.HostFile) ∷ []) [] 1 1

abbrev shared_3 : State
shared_3 = holding ((1, 0) ∷ []) ((0, out_at 0) ∷ []) ((0, DoorTo door.HostFile) ∷ []) [] 1 1

abbrev shared_4 : State
shared_4 =
    holding ((0, 0) ∷ (1, 0) ∷ (2, 1) ∷ []) ((0, out_at 0) ∷ (1, description 1 access.ReadWrite 0 false false) ∷ [])
    ((0, DoorTo door.HostFile) ∷ (1, File []) ∷ []) ((codes "b" ∷ [], FileNode 1) ∷ []) 2 2

abbrev shared_5 : State
shared_5 =
    holding ((0, 1) ∷ (1, 0) ∷ (2, 1) ∷ []) ((0, out_at 0) ∷ (1, description 1 access.ReadWrite 0 false false) ∷ [])
    ((0, DoorTo door.HostFile) ∷ (1, File []) ∷ []) ((codes "b" ∷ [], FileNode 1) ∷ []) 2 2

abbrev shared_6 : State
shared_6 =
    holding ((0, 1) ∷ (2, 1) ∷ []) ((1, description 1 access.ReadWrite 0 false false) ∷ [])
    ((1, File []) ∷ []) ((codes "b" ∷ [], FileNode 1) ∷ []) 2 2

abbrev pub shared_states : List State
shared_states = shared_1 ∷ shared_2 ∷ shared_3 ∷ shared_2 ∷ shared_4 ∷ shared_5 ∷ shared_5 ∷ shared_5 ∷ shared_6
    ∷ shared_6 ∷ []

pub shared : (settings : Settings) → Leads settings empty_state shared_door shared_states
unfolding seen host_open_decided open_decided lowest_from path_form dup_decided dup2_decided close_decided fstat_decided
shared settings = (
  simp (listed, out-utf8),
  simp (listed, out-utf8),
  (
    simp listed,
    simp listed,
    (
      simp listed,
      simp listed,
      (
        simp listed,
        simp listed,
        (
          simp listed,
          simp listed,
          (
            simp listed,
            simp listed,
            (
              simp listed,
              simp listed,
              (simp listed, simp listed, (simp listed, simp listed, (simp listed, simp listed, tt))),
            ),
          ),
        ),
      ),
    ),
  ),
)

abbrev both_1 : State
both_1 = holding ((0, 0) ∷ []) ((0, description_of (part.Door door.HostFile) 0 access.ReadWrite 0 false false) ∷ [])
    ((0, DoorTo door.HostFile) ∷ []) [] 1 1

abbrev pub no_bytes_states : List State
no_bytes_states = both_1 ∷ both_1 ∷ both_1 ∷ []

pub no_bytes : (settings : Settings) → Leads settings empty_state no_bytes_of_a_door no_bytes_states
unfolding seen host_open_decided lowest_from read_decided write_decided
no_bytes settings = (
  simp (listed, out-utf8),
  simp (listed, out-utf8),
  (simp listed, simp listed, (simp listed, simp listed, tt)),
)

abbrev appended_1 : State
appended_1 = holding ((0, 0) ∷ []) ((0, description_of (part.Door door.HostFile) 0 access.WriteOnly 0 true false) ∷ [])
    ((0, DoorTo door.HostFile) ∷ []) [] 1 1

abbrev pub appended_states : List State
appended_states = appended_1 ∷ appended_1 ∷ appended_1 ∷ appended_1 ∷ appended_1 ∷ []

pub appended : (settings : Settings) → Leads settings empty_state appended_host_file appended_states
unfolding seen host_open_decided lowest_from getfl_decided write_decided lseek_decided
appended settings = (
  simp (listed, out-utf8),
  simp (listed, out-utf8),
  (
    simp listed,
    simp listed,
    (
      simp listed,
      simp listed,
      (simp listed, simp listed, (simp listed, simp listed, tt)),
    ),
  ),
)

abbrev stream_1 : State
stream_1 = holding ((0, 0) ∷ []) ((0, at_door 0 door.Stream) ∷ []) ((0, DoorTo door.Stream) ∷ []) [] 1 1

abbrev stream_2 : State
stream_2 = holding ((0, 0) ∷ []) ((0, description_of (part.Door door.Stream) 0 access.ReadWrite 0 false true) ∷ [])
    ((0, DoorTo door.Stream) ∷ []) [] 1 1

abbrev pub would_block_states : List State
would_block_states = stream_1 ∷ stream_2 ∷ stream_2 ∷ []

pub would : (settings : Settings) → Leads settings empty_state would_block would_block_states
unfolding seen port_decided lowest_from setfl_decided read_decided
would settings = (simp listed, simp listed, (simp listed, simp listed, (simp listed, simp listed, tt)))

-- each turn is answered so, and leads to the next of these states, with what it carries on
abbrev pub LeadsOn : Settings → State → Carried → List CallTurn → List (State × Carried) → Type 0
LeadsOn settings s carried [] [] = Unit {0}
LeadsOn settings s carried [] (next ∷ states) = ⊥
LeadsOn settings s carried (t ∷ turns) [] = ⊥
LeadsOn settings s carried (t ∷ turns) (next ∷ states) =
    (step settings s t.call t.outcome carried ≡ record { after = next.0; answer = t.answer; carried = next.1 })
    × (is_some (asks s t.call carried) ≡ is_some t.outcome) × LeadsOn settings next.0 next.1 turns states

turns_of : (settings : Settings) (s : State) (carried : Carried) (turns : List CallTurn)
    (states : List (State × Carried)) → LeadsOn settings s carried turns states
    → turns_from settings s carried turns ≡ map (λ (t : CallTurn). t.answer) turns
turns_of settings s carried [] [] leads = refl
turns_of settings s carried [] (next ∷ states) leads = absurd leads
turns_of settings s carried (t ∷ turns) [] leads = absurd leads
turns_of settings s carried (t ∷ turns) (next ∷ states) leads =
    ap (λ (stepped : Stepped). stepped.answer ∷ turns_from settings stepped.after stepped.carried turns) leads.0
    ∙ ap (λ (answers : List Answer). t.answer ∷ answers) (turns_of settings next.0 next.1 turns states leads.2)

asked_turns_of : (settings : Settings) (s : State) (carried : Carried) (turns : List CallTurn)
    (states : List (State × Carried)) → LeadsOn settings s carried turns states
    → asked_in_turn settings s carried turns ≡ map (λ (t : CallTurn). is_some t.outcome) turns
asked_turns_of settings s carried [] [] leads = refl
asked_turns_of settings s carried [] (next ∷ states) leads = absurd leads
asked_turns_of settings s carried (t ∷ turns) [] leads = absurd leads
asked_turns_of settings s carried (t ∷ turns) (next ∷ states) leads =
    ap₂ (λ (b : Bool) (stepped : Stepped). b ∷ asked_in_turn settings stepped.after stepped.carried turns) leads.1
    leads.0
    ∙ ap (λ (bs : List Bool). is_some t.outcome ∷ bs) (asked_turns_of settings next.0 next.1 turns states leads.2)

abbrev patient_states : List (State × Carried)
patient_states = (stream_1, nothing_carried) ∷ (stream_1, record { turns = 1; moved = nothing_moved })
    ∷ (stream_1, nothing_carried) ∷ (stream_1, record { turns = 1; moved = nothing_moved }) ∷ []

patient_leads : (settings : Settings) → settings.patience ≡ 2
    → LeadsOn settings empty_state nothing_carried patient_door patient_states
unfolding seen port_decided lowest_from read_decided
patient_leads settings is = (
  simp listed,
  simp listed,
  (simp (listed, is), simp listed, (simp (listed, is), simp listed, (simp (listed, is), simp listed, tt))),
)

abbrev impatient_states : List (State × Carried)
impatient_states = (stream_1, nothing_carried) ∷ (stream_1, nothing_carried) ∷ []

impatient_leads : (settings : Settings) → settings.patience ≡ 1
    → LeadsOn settings empty_state nothing_carried impatient_door impatient_states
unfolding seen port_decided lowest_from read_decided
impatient_leads settings is = (simp listed, simp listed, (simp (listed, is), simp listed, tt))

pub patient : TurnsAnswer 2 patient_door
patient settings is =
    let leads = patient_leads settings is in (
      turns_of settings empty_state nothing_carried patient_door patient_states leads,
      asked_turns_of settings
          empty_state nothing_carried patient_door patient_states leads,
    )

pub impatient : TurnsAnswer 1 impatient_door
impatient settings is =
    let leads = impatient_leads settings is in (
      turns_of settings empty_state nothing_carried impatient_door impatient_states leads,
      asked_turns_of settings
          empty_state nothing_carried impatient_door impatient_states leads,
    )
