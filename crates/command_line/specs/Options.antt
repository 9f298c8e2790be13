-- Believed: the contract of the command line stands on it.
-- What clap is given of an option, by its rules.
use Rattle.std.specs.Prelude.{⊤, ◌≡◌, ℕ, Bool, List, [], ◌∷◌, ◌++◌, Option, Some, true, false, map}
use Rattle.std.specs.Prelude.{option_map, length}
use Rattle.std.specs.Borrow.{Bor}
use Rattle.std.specs.List.{fold}
use Rattle.clap.specs.Lexer.{usize_max}
use Rattle.clap.specs.Texts.{items_of}
use Rattle.clap.specs.Simple.{new_rule}
use Rattle.clap.specs.Walk.{Rule as Read, rule_of, texts}
use Rattle.clap.specs.declared.builder.action.ArgAction.TheVariants.{Append, SetTrue}
use Rattle.clap.specs.declared.builder.arg.Arg.{Arg}
use Rattle.clap.specs.declared.builder.arg.ArgPredicate.{ArgPredicate}
use Rattle.clap.specs.declared.builder.arg.ArgPredicate.TheVariants.{IsPresent}
use Rattle.command_line.specs.declared.options.Argument.{Argument}
use Rattle.command_line.specs.declared.options.Rule.{Rule}
use Rattle.command_line.specs.declared.options.Rule.TheVariants as rule

-- what clap has of an argument: what a parse reads, what help says, and its rules on others
pub record View : Type 0 where
  pub read : Read
  pub help : Option (List ℕ)
  pub value_names : List (List ℕ)
  pub conflicts : List (List ℕ)
  pub needs : List (ArgPredicate × List ℕ)
  pub unless : List (List ℕ)
  pub global : Bool

abbrev pub conflicts_of : Arg → List (List ℕ)
conflicts_of a = texts a.conflicts.items

-- when it needs another one, and which
abbrev pub need : ArgPredicate × Bor (List ℕ) → ArgPredicate × List ℕ
need n = (n.0, n.1.now)

abbrev pub view_of : Arg → View
view_of a = record {
  read = rule_of a;
  help = option_map (λ s. s.now) a.help;
  value_names = texts (items_of a.val_names);
  conflicts = conflicts_of a;
  needs = map need a.needs.items;
  unless = texts a.r_unless.items;
  global = a.global;
}

-- an argument with no rule
abbrev pub plain_view : List ℕ → List ℕ → View
plain_view id help = record {
  read = new_rule id;
  help = Some help;
  value_names = [];
  conflicts = [];
  needs = [];
  unless = [];
  global = false;
}

-- so many values, from the least to the most
abbrev pub with_values : ℕ → ℕ → Read → Read
with_values least most r =
    record r { range = Some (record { start_inclusive = least; end_inclusive = most }) }

-- the argument of this name with one rule more
abbrev pub ruled : List ℕ → View → Rule → View
ruled id v rule.Flag =
    record v { read = record v.read { long = Some id; action = Some SetTrue } }
ruled id v (rule.Named name) = record v {
  read = record v.read { long = Some id; value_names = 1 };
  value_names = name.now ∷ [];
}
ruled id v (rule.Three names) = record v {
  read = with_values 3 3 (record v.read { long = Some id; value_names = length names.now });
  value_names = texts names.now;
}
ruled id v (rule.Place name) =
    record v { read = record v.read { value_names = 1 }; value_names = name.now ∷ [] }
ruled id v rule.Many =
    record v { read = with_values 0 usize_max (record v.read { action = Some Append }) }
ruled id v rule.Repeated = record v { read = record v.read { action = Some Append } }
ruled id v rule.Required = record v { read = record v.read { required = true } }
ruled id v (rule.RequiredWithout other) =
    record v { read = record v.read { is_free = false }; unless = v.unless ++ other.now ∷ [] }
ruled id v (rule.Default text) =
    record v { read = record v.read { defaults = text.now ∷ [] } }
ruled id v (rule.Without text) =
    record v { read = with_values 0 1 (record v.read { missing = text.now ∷ [] }) }
ruled id v (rule.Takes parser) = record v { read = record v.read { parser = Some parser } }
ruled id v (rule.Needs other) = record v {
  read = record v.read { is_free = false };
  needs = v.needs ++ (IsPresent, other.now) ∷ [];
}
ruled id v (rule.Excludes other) =
    record v { read = record v.read { is_free = false }; conflicts = v.conflicts ++ other.now ∷ [] }

-- an argument of the table
abbrev pub view_by : Argument → View
view_by a = fold (ruled a.id.now) (plain_view a.id.now a.help.now) a.rules.now

-- what it does not go with
abbrev pub excluded : Argument → List (List ℕ)
excluded a = (view_by a).conflicts

-- no subcommand takes any of these arguments
unfoldable pub AreLocal : List Arg → Type 0
AreLocal [] = ⊤
AreLocal (a ∷ rest) = (a.global ≡ false) × AreLocal rest
