-- What is found of one more text, and what the status says of it.
use Rattle.std.proofs.Common.{◌≡◌, ℕ, ◌+◌, ◌<◌, ◌≤◌, Bool, ◌&&◌, List, [], ◌∷◌, ◌++◌, length, map}
use Rattle.std.proofs.Common.{take, get_or, Option, Some, None, Result, Ok, Err, IfOk, OnOk, refl}
use Rattle.std.proofs.Common.{ap, sym, ◌∙◌}
use Rattle.std.proofs.Common.{append_assoc, arith}
use Rattle.std.specs.Global.{Vec}
use Rattle.std.specs.List.{cons_option, list_all}
use Rattle.std.specs.Option.{option_to_list}
use Rattle.std.specs.Result.{result_ok}
use Rattle.std.proofs.lemmas.List.Elements.{filter_map-append}
use Rattle.thread_scripts.specs.Grammar.{script_of}
use Rattle.thread_scripts.specs.declared.line.Line.{Line}
use Rattle.std.proofs.lemmas.List.Folds.{list_all_more}
use Rattle.std.proofs.lemmas.List.{append-nil, length-map, length-take, map-append, take_all}
use Rattle.std.proofs.lemmas.List.{take_more}
use Rattle.script_checks.specs.Checks.{IsChecked}
use Rattle.script_checks.specs.declared.checking.Checked.{Checked}
use Rattle.script_checks.specs.declared.checking.Checked.TheVariants as checked
use Rattle.posix_terms.specs.declared.bytes.Bytes.{Bytes}
use Rattle.command_texts.specs.declared.printed.Printed.{Printed}
use Rattle.command_inputs.specs.Sources.{IsRead}
use Rattle.command_inputs.specs.declared.sources.SourceTexts.{SourceTexts}
use Rattle.command_inputs.specs.declared.sources.SourceTexts.TheVariants as sourced
use Rattle.check_commands.specs.Checking.{AddsFindings, AreFindings, CheckPrints, TextsPrint}
use Rattle.check_commands.specs.Checking.{checked_by, is_script_text, scripts_among}
use Rattle.check_commands.specs.Findings.{is_good, script_in}
use Rattle.check_commands.specs.declared.checking.CheckOptions.{CheckOptions}

-- a text is a script exactly where that was found
pub good_is : (text : List ℕ) (check : Checked) → IsChecked text check
    → is_good check ≡ is_script_text text
good_is text checked.TooLong is = rw is refl
good_is text (checked.Bad shown left_out) is = rw is.is refl
good_is text (checked.Good script lines warnings) is = rw is.is refl

pub one_more : (json : Bool) (paths texts : List (List ℕ)) (path text output output' : List ℕ)
    → length paths ≡ length texts → AreFindings json paths texts output
    → AddsFindings json path text output output'
    → AreFindings json (paths ++ path ∷ []) (texts ++ text ∷ []) output'
one_more json [] [] path text output output' e none adds = (
  adds.check,
  [],
  adds.is,
  refl,
  adds.adds ∙ ap
      (λ (o : List ℕ). o ++ checked_by json path adds.check) none
      ∙ sym (append-nil (checked_by json path adds.check)),
)
one_more json [] (t ∷ texts) path text output output' e found adds = absurd (omega arith)
one_more json (p ∷ paths) [] path text output output' e found adds = absurd (omega arith)
one_more json (p ∷ paths) (t ∷ texts) path text output output' e (check, others, is, found, out) adds = (
  check,
  others ++ checked_by json path adds.check,
  is,
  one_more json paths texts path text others (others ++ checked_by json path adds.check)
      (omega arith) found (record { check = adds.check; is = adds.is; adds = refl }),
  adds.adds ∙ ap (λ (o : List ℕ). o ++ checked_by json path adds.check) out
      ∙ append_assoc (checked_by json p check) others (checked_by json path adds.check),
)

pub added : {X E : Type 0} (json : Bool) (result : Result X E) (path text output output' : List ℕ)
    (check : Checked) → IsChecked text check
    → OnOk result (output' ≡ output ++ checked_by json path check)
    → OnOk result (AddsFindings json path text output output')
added json (Ok x) path text output output' check is adds = record { check = check; is = is; adds = adds }
added json (Err e) path text output output' check is adds = tt

-- the status of one more text
pub all_more : (texts : List (List ℕ)) (i : ℕ) (text : List ℕ) (all good : Bool) → i < length texts
    → text ≡ get_or texts i text
    → all ≡ list_all is_script_text (take i texts) → good ≡ is_script_text text
    → (all && good) ≡ list_all is_script_text (take (i + 1) texts)
all_more texts i text all good h at were is = sym (list_all_more is_script_text texts i text h ∙ cc)

-- the texts at one more of these paths
pub found_more : {P : Type 0} (json : Bool) (now : P → List ℕ) (paths : List P) (texts : List (List ℕ)) (i : ℕ)
    (path : P) (text output output' : List ℕ)
    → length paths ≡ length texts → i < length texts → text ≡ get_or texts i text
    → AreFindings json (map now (take i paths)) (take i texts) output
    → AddsFindings json (now (get_or paths i path)) text output output'
    → AreFindings json (map now (take (i + 1) paths)) (take (i + 1) texts) output'
found_more {P = P} json now paths texts i path text output output' e h at_text found adds =
    let more_paths : map now (take (i + 1) paths) ≡ map now (take i paths)
    ++ now (get_or paths i path) ∷ [] =
    ap (map now) (take_more paths i path (omega arith))
    ∙ map-append now (take i paths) (get_or paths i path ∷ []) in
    let more_texts : take (i + 1) texts ≡ take i texts ++ text ∷ [] =
    take_more texts i text h ∙ ap (λ (t : List ℕ). take i texts ++ t ∷ []) (sym at_text) in
    let as_many : length (map now (take i paths)) ≡ length (take i texts) =
    length-map (take i paths) now ∙ omega (arith, length-take i paths, length-take i texts) in
    rw (more_paths, more_texts)
    (one_more json (map now (take i paths)) (take i texts)
    (now (get_or paths i path)) text output output' as_many found adds)

-- all texts, at their paths
pub found_all : {P : Type 0} (json : Bool) (now : P → List ℕ) (paths : List P) (texts : List (List ℕ)) (end : ℕ)
    (output : List ℕ) → length paths ≡ length texts → length texts ≤ end
    → AreFindings json (map now (take end paths)) (take end texts) output
    → AreFindings json (map now paths) texts output
found_all json now paths texts end output e past found =
    let ps = take_all end paths (omega arith) in
    let ts = take_all end texts past in
    rw (ps, ts) at found

firsts : {S : Type 0} (pair : S → List ℕ × Option (List ℕ)) (sources : List S)
    → map (λ s. s.0) (map pair sources) ≡ map (λ s. (pair s).0) sources
firsts pair [] = refl
firsts pair (s ∷ sources) = ap (λ (ps : List (List ℕ)). (pair s).0 ∷ ps) (firsts pair sources)

-- what is printed of the texts of these sources
pub printed_of : {S E : Type 0} (options : CheckOptions) (pair : S → List ℕ × Option (List ℕ)) (sources : List S)
    (paths texts : List (List ℕ)) (read : SourceTexts) (items : Vec Bytes)
    (result : Result Printed E)
    → read ≡ sourced.Read items → texts ≡ items.items → paths ≡ map (λ s. (pair s).0) sources
    → IsRead (map pair sources) read
    → IfOk result (TextsPrint options.json paths texts) → IfOk result (CheckPrints options (map pair sources))
printed_of options pair sources paths texts read items (Err e) was are named is prints = tt
printed_of options pair sources paths texts read items (Ok printed) was are named is prints =
    (sourced.Read items, rw was at is, rw (firsts pair sources, ← named, ← are) prints)

-- the script of a text exactly where it was found
pub script_is : (text : List ℕ) (check : Checked) → IsChecked text check
    → script_in check ≡ option_to_list (result_ok (script_of text))
script_is text checked.TooLong is = rw is refl
script_is text (checked.Bad shown left_out) is = rw is.is refl
script_is text (checked.Good script lines warnings) is = rw is.is refl

pub kept_one : {X E S : Type 0} (result : Result X E) (before after one other : List S)
    → one ≡ other → OnOk result (after ≡ before ++ one) → OnOk result (after ≡ before ++ other)
kept_one result before after one other same kept = rw (← same) kept

single : {S : Type 0} (found : Option S) → cons_option found [] ≡ option_to_list found
single None = refl
single (Some x) = refl

-- the scripts of one more text
pub scripts_more : (texts : List (List ℕ)) (i : ℕ) (text : List ℕ) (before after : List (List Line))
    → i < length texts → text ≡ get_or texts i text → before ≡ scripts_among (take i texts)
    → after ≡ before ++ option_to_list (result_ok (script_of text))
    → after ≡ scripts_among (take (i + 1) texts)
scripts_more texts i text before after h at were adds =
    let h_of = λ (t : List ℕ). result_ok (script_of t) in
    let more : take (i + 1) texts ≡ take i texts ++ text ∷ [] =
    take_more texts i text h ∙ ap (λ (t : List ℕ). take i texts ++ t ∷ []) (sym at) in
    let split : scripts_among (take (i + 1) texts) ≡ scripts_among (take i texts)
    ++ scripts_among (text ∷ []) =
    ap scripts_among more ∙ filter_map-append h_of (take i texts) (text ∷ []) in
    adds ∙ ap (λ (ss : List (List Line)). ss ++ option_to_list (result_ok (script_of text))) were
    ∙ ap (λ (ss : List (List Line)). scripts_among (take i texts) ++ ss)
    (sym (single (result_ok (script_of text))))
    ∙ sym split
