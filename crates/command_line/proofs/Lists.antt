-- The arguments of a command, and the subcommands of the program.
use Rattle.std.proofs.Common.{◌≡◌, ◌∙◌, ◌<◌, ◌+◌, ℕ, false, List, [], ◌∷◌, ◌++◌, length, get_or, map, take}
use Rattle.std.proofs.Common.{ap, append_assoc, arith, refl, sym}
use Rattle.std.proofs.lemmas.List.{append-nil, map-append, map_more}
use Rattle.std.specs.Borrow.{Bor}
use Rattle.std.specs.List.{fold}
use Rattle.std.specs.Prelude.{IfOk, Result, Ok, Err, drop}
use Rattle.clap.specs.Simple.{App, Shape, new_app, shape_of}
use Rattle.clap.specs.Walk.{Rule as Read, rule_of, texts}
use Rattle.clap.specs.Words.{AddsArg, AddsInTurn, app_of, args_of, subcommand_names, with_subcommand}
use Rattle.clap.specs.declared.builder.arg.Arg.{Arg}
use Rattle.clap.specs.declared.builder.command.Command.{Command}
use Rattle.command_line.specs.Commands.{program_shape, shape_by, top_of, with_rules}
use Rattle.command_line.specs.Names.{name_by, name_of}
use Rattle.command_line.specs.Options.{AreLocal, View, conflicts_of, excluded, ruled, view_by, view_of}
use Rattle.command_line.specs.declared.options.Argument.{Argument}
use Rattle.command_line.specs.declared.options.Rule.{Rule}
use Rattle.command_line.specs.declared.options.Rule.TheVariants as rule
use Rattle.command_line.specs.declared.tables.Kind.{Kind}
use Rattle.command_line.specs.declared.tables.Subcommand.{Subcommand}

-- ## Arguments that are added in turn

now_added : (old : Command) (args : List Arg) (new : Command) → AreLocal args → AddsInTurn AddsArg old args new
    → app_of new ≡ with_rules (app_of old) (map rule_of args)
unfolding AreLocal
now_added old [] new local same =
    ap app_of (sym same)
    ∙ ap (λ (l : List Read). record (app_of old) { top = record (app_of old).top { rules = l } })
    (sym (append-nil (app_of old).top.rules))
now_added old (arg ∷ args) new (own, local) (next, adds, rest) =
    now_added next args new local rest
    ∙ ap (λ (a : App). with_rules a (map rule_of args)) (adds.shape own)
    ∙ ap (λ (l : List Read). record (app_of old) { top = record (app_of old).top { rules = l } })
    (append_assoc (app_of old).top.rules (rule_of arg ∷ []) (map rule_of args))

now_excluding : (old : Command) (args : List Arg) (new : Command) → AddsInTurn AddsArg old args new
    → map conflicts_of (args_of new) ≡ map conflicts_of (args_of old) ++ map conflicts_of args
now_excluding old [] new same =
    ap (λ (c : Command). map conflicts_of (args_of c)) (sym same) ∙ sym (append-nil (map conflicts_of (args_of old)))
now_excluding old (arg ∷ args) new (next, adds, rest) =
    now_excluding next args new rest
    ∙ ap (λ (l : List Arg). map conflicts_of l ++ map conflicts_of args) adds.args
    ∙ ap (λ (l : List (List (List ℕ))). l ++ map conflicts_of args)
    (map-append conflicts_of (args_of old) (adds.arg ∷ []))
    ∙ ap (λ (l : List (Bor (List ℕ))). (map conflicts_of (args_of old) ++ texts l ∷ []) ++ map conflicts_of args)
    adds.rules.conflicts
    ∙ append_assoc (map conflicts_of (args_of old)) (conflicts_of arg ∷ []) (map conflicts_of args)

pub added : {E : Type 0} (old : Command) (args : List Arg) (r : Result Command E) → AreLocal args
    → IfOk r (λ new. AddsInTurn AddsArg old args new)
    → IfOk r (λ new. app_of new ≡ with_rules (app_of old) (map rule_of args))
added old args (Ok new) local adds = now_added old args new local adds
added old args (Err e) local adds = tt

pub excluding : {E : Type 0} (old : Command) (args : List Arg) (r : Result Command E)
    → IfOk r (λ new. AddsInTurn AddsArg old args new)
    → IfOk r (λ new. map conflicts_of (args_of new) ≡ map conflicts_of (args_of old) ++ map conflicts_of args)
excluding old args (Ok new) adds = now_excluding old args new adds
excluding old args (Err e) adds = tt

-- ## Arguments of a table

head_or : {X : Type 0} → X → List X → X
head_or d [] = d
head_or d (x ∷ xs) = x

still_local : (id : List ℕ) (v : View) (given : Rule) → v.global ≡ false → (ruled id v given).global ≡ false
still_local id v rule.Flag is = is
still_local id v (rule.Named name) is = is
still_local id v (rule.Three names) is = is
still_local id v (rule.Place name) is = is
still_local id v rule.Many is = is
still_local id v rule.Repeated is = is
still_local id v rule.Required is = is
still_local id v (rule.RequiredWithout other) is = is
still_local id v (rule.Default text) is = is
still_local id v (rule.Without text) is = is
still_local id v (rule.Takes parser) is = is
still_local id v (rule.Needs other) is = is
still_local id v (rule.Excludes other) is = is

all_local : (id : List ℕ) (v : View) (rules : List Rule) → v.global ≡ false → (fold (ruled id) v rules).global ≡ false
all_local id v [] is = is
all_local id v (given ∷ rules) is = all_local id (ruled id v given) rules (still_local id v given is)

pub of_table : (args : List Arg) (given : List Argument) → map view_of args ≡ map view_by given → AreLocal args
unfolding AreLocal head_or
of_table [] given is = tt
of_table (arg ∷ args) [] is =
    let bad = ap length is in
    absurd (omega (arith, bad))
of_table (arg ∷ args) (a ∷ given) is =
    let first : view_of arg ≡ view_by a = ap (head_or (view_of arg)) is in
    (ap (λ (v : View). v.global) first ∙ all_local a.id.now _ a.rules.now refl, of_table args given (ap (drop 1) is))

read_of_table : (args : List Arg) (given : List Argument) → map view_of args ≡ map view_by given
    → map rule_of args ≡ map (λ a. (view_by a).read) given
unfolding head_or
read_of_table [] [] is = refl
read_of_table [] (a ∷ given) is = absurd (omega (arith, ap length is))
read_of_table (arg ∷ args) [] is = absurd (omega (arith, ap length is))
read_of_table (arg ∷ args) (a ∷ given) is =
    ap (λ (v : View). v.read ∷ map rule_of args) (ap (head_or (view_of arg)) is)
    ∙ ap (λ (l : List Read). (view_by a).read ∷ l) (read_of_table args given (ap (drop 1) is))

excluded_of_table : (args : List Arg) (given : List Argument) → map view_of args ≡ map view_by given
    → map conflicts_of args ≡ map excluded given
unfolding head_or
excluded_of_table [] [] is = refl
excluded_of_table [] (a ∷ given) is = absurd (omega (arith, ap length is))
excluded_of_table (arg ∷ args) [] is = absurd (omega (arith, ap length is))
excluded_of_table (arg ∷ args) (a ∷ given) is =
    ap (λ (v : View). v.conflicts ∷ map conflicts_of args) (ap (head_or (view_of arg)) is)
    ∙ ap (λ (l : List (List (List ℕ))). excluded a ∷ l) (excluded_of_table args given (ap (drop 1) is))

-- a subcommand with the arguments of its table
pub shaped : {E : Type 0} (given : Subcommand) (start : Command) (args : List Arg) (r : Result Command E)
    → IfOk r (λ c. app_of c ≡ with_rules (app_of start) (map rule_of args)) → app_of start ≡ new_app given.name.now
    → map view_of args ≡ map view_by given.arguments.now → IfOk r (λ c. shape_of c ≡ shape_by given)
shaped given start args (Ok c) has is views =
    ap (λ (a : App). a.top) (has ∙ ap (λ (a : App). with_rules a (map rule_of args)) is
    ∙ ap (with_rules (new_app given.name.now)) (read_of_table args given.arguments.now views))
shaped given start args (Err e) has is views = tt

pub refusing : {E : Type 0} (given : Subcommand) (start : Command) (args : List Arg) (r : Result Command E)
    → IfOk r (λ c. map conflicts_of (args_of c) ≡ map conflicts_of (args_of start) ++ map conflicts_of args)
    → args_of start ≡ [] → map view_of args ≡ map view_by given.arguments.now
    → IfOk r (λ c. map conflicts_of (args_of c) ≡ map excluded given.arguments.now)
refusing given start args (Ok c) has none views =
    has ∙ ap (λ (l : List Arg). map conflicts_of l ++ map conflicts_of args) none
    ∙ excluded_of_table args given.arguments.now views
refusing given start args (Err e) has none views = tt

-- ## The subcommands of the program

-- one more of them
pub next_kind : (old sub : Command) (kinds : List Kind) (i : ℕ) (d : Kind) (new : Command) → i < length kinds
    → app_of new ≡ with_subcommand (app_of old) (shape_of sub) → name_of sub ≡ name_by (get_or kinds i d)
    → (top_of old ≡ program_shape) × (subcommand_names old ≡ map name_by (take i kinds))
    → (top_of new ≡ program_shape) × (subcommand_names new ≡ map name_by (take (i + 1) kinds))
next_kind old sub kinds i d new less adds is (top, names) = (
  ap (λ (a : App). record a.top { is_leaf = false }) adds ∙ top,
  ap (λ (a : App). map (λ (s : Shape). s.name) a.subs) adds
      ∙ map-append (λ (s : Shape). s.name) (app_of old).subs (shape_of sub ∷ [])
      ∙ ap (λ (l : List (List ℕ)). l ++ name_of sub ∷ []) names
      ∙ ap (λ (n : List ℕ). map name_by (take i kinds) ++ n ∷ []) is
      ∙ sym (map_more name_by kinds i d less),
)
