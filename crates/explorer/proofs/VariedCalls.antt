-- The calls of a varied script, its places, and the scripts of threads.
use Rattle.std.proofs.Common.{◌≡◌, ◌∙◌, ap, ℕ, zero, suc, ◌+◌, ◌⊎◌, inl, inr, List, []}
use Rattle.std.proofs.Common.{◌∷◌, map, slice_get, Option, Some, None, Result, Ok, Err}
use Rattle.std.proofs.Common.{refl, arith}
use Rattle.std.specs.List.{cons_option}
use Rattle.std.proofs.lemmas.Option.{slice_get-map}
use Rattle.thread_scripts.specs.Faults.{Fault, too_long}
use Rattle.thread_scripts.specs.Grammar.{script_of}
use Rattle.thread_scripts.specs.declared.line.Line.{Line}
use Rattle.thread_scripts.specs.declared.line.Line.TheVariants as line
use Rattle.command_texts.specs.Reading.{script_before, scripts_from}
use Rattle.explorer.specs.Delayed.{call_in, calls_in, delayed, moved, redirected, with_works}
use Rattle.explorer.specs.Delayed.{works_of}
use Rattle.explorer.specs.Laws.{AreWorks, LinesHaveMoved, OnlyTooLong, ThreadsMakeCalls}
use Rattle.explorer.specs.Laws.{VariedMakesCalls}
use Rattle.explorer.specs.Varied.{varied_text, varied_texts}
use Rattle.explorer.proofs.VariedScripts.{varied_script}

-- ## Places

-- a line stands where it has moved
stands : (works : List (Option ℕ)) (lines : List Line) (place : ℕ)
    → slice_get (with_works works lines) (moved works place) ≡ slice_get lines place
stands [] lines place = refl
stands (work ∷ works) [] place = refl
stands (None ∷ works) (l ∷ lines) zero = refl
stands (None ∷ works) (l ∷ lines) (suc place) =
    let next : 0 + 1 + moved works place ≡ suc (moved works place) = omega arith in
    rw next (stands works lines place)
stands (Some units ∷ works) (l ∷ lines) zero = refl
stands (Some units ∷ works) (l ∷ lines) (suc place) =
    let next : 1 + 1 + moved works place ≡ suc (suc (moved works place)) = omega arith in
    rw next (stands works lines place)

pub lines_have_moved : LinesHaveMoved
lines_have_moved works lines place =
    stands works (map (redirected (moved works)) lines) place
    ∙ slice_get-map (redirected (moved works)) lines place

-- ## Calls

-- a line makes the same call wherever it jumps
same_call : (to : ℕ → ℕ) (l : Line) → call_in (redirected to l) ≡ call_in l
same_call to (line.Call call) = refl
same_call to (line.Work amount) = refl
same_call to line.End = refl
same_call to (line.Set register value) = refl
same_call to (line.Add register value) = refl
same_call to (line.SetBytes register value) = refl
same_call to line.Label = refl
same_call to (line.Jump place) = refl
same_call to (line.JumpIfZero register place) = refl
same_call to (line.JumpIfFailed place) = refl

calls_redirected : (to : ℕ → ℕ) (lines : List Line)
    → calls_in (map (redirected to) lines) ≡ calls_in lines
calls_redirected to [] = refl
calls_redirected to (l ∷ lines) = rw (same_call to l, calls_redirected to lines) refl

-- a work makes no call
calls_with_works : (works : List (Option ℕ)) (lines : List Line)
    → calls_in (with_works works lines) ≡ calls_in lines
calls_with_works [] lines = refl
calls_with_works (work ∷ works) [] = refl
calls_with_works (None ∷ works) (l ∷ lines) =
    ap (cons_option (call_in l)) (calls_with_works works lines)
calls_with_works (Some units ∷ works) (l ∷ lines) =
    ap (cons_option (call_in l)) (calls_with_works works lines)

calls_delayed : (works : List (Option ℕ)) (lines : List Line)
    → calls_in (delayed works lines) ≡ calls_in lines
calls_delayed works lines =
    calls_with_works works (map (redirected (moved works)) lines)
    ∙ calls_redirected (moved works) lines

pub varied_calls : VariedMakesCalls
varied_calls delay text lines varied works is now =
    at (varied_script delay text lines works is)
  where
    at : (script_of (varied_text delay text) ≡ Err too_long)
        ⊎ (script_of (varied_text delay text) ≡ Ok (delayed (works_of delay text) lines))
        → calls_in varied ≡ calls_in lines
    at (inl none) = cc
    at (inr script) =
        let same : varied ≡ delayed (works_of delay text) lines = cc in
        rw same (calls_delayed (works_of delay text) lines)

-- ## Threads

-- the first of scripts that were read, and the others
first_read : (i : ℕ) (first : Result (List Line) Fault)
    (others : Result (List (List Line)) (ℕ × Fault)) (scripts : List (List Line))
    → script_before i first others ≡ Ok scripts
    → (script : List Line) × (rest : List (List Line)) × (first ≡ Ok script)
    × (others ≡ Ok rest) × (scripts ≡ script ∷ rest)
first_read i (Err fault) others scripts read = cc
first_read i (Ok script) (Err fault) scripts read = cc
first_read i (Ok script) (Ok rest) scripts read = (script, rest, refl, refl, cc)

calls_from : (delays : ℕ → ℕ → Option ℕ) → ((thread : ℕ) → AreWorks (delays thread))
    → (i j thread : ℕ) (texts : List (List ℕ)) (scripts varied : List (List Line))
    → scripts_from i texts ≡ Ok scripts
    → scripts_from j (varied_texts delays thread texts) ≡ Ok varied
    → map calls_in varied ≡ map calls_in scripts
calls_from delays works i j thread [] scripts varied read now =
    let none : scripts ≡ varied = cc in
    rw none refl
calls_from delays works i j thread (text ∷ texts) scripts varied read now =
    let (script, rest, first, others, are) =
    first_read i (script_of text) (scripts_from (i + 1) texts) scripts read in
    let (varied_first, varied_rest, first_now, others_now, are_now) =
    first_read j (script_of (varied_text (delays thread) text))
    (scripts_from (j + 1) (varied_texts delays (thread + 1) texts)) varied now in
    rw (
      are,
      are_now,
      varied_calls (delays thread) text script varied_first (works thread) first first_now,
      calls_from delays works (i + 1) (j + 1) (thread + 1) texts rest varied_rest others others_now,
    ) refl

pub threads_calls : ThreadsMakeCalls
threads_calls delays texts scripts varied works read now =
    calls_from delays works 0 0 0 texts scripts varied read now

faults_from : (delays : ℕ → ℕ → Option ℕ) → ((thread : ℕ) → AreWorks (delays thread))
    → (i j thread : ℕ) (texts : List (List ℕ)) (scripts : List (List Line)) (k : ℕ) (fault : Fault)
    → scripts_from i texts ≡ Ok scripts
    → scripts_from j (varied_texts delays thread texts) ≡ Err (k, fault) → fault ≡ too_long
faults_from delays works i j thread [] scripts k fault read now = cc
faults_from delays works i j thread (text ∷ texts) scripts k fault read now =
    let (script, rest, first, others, are) =
    first_read i (script_of text) (scripts_from (i + 1) texts) scripts read in
    by_script (script_of (varied_text (delays thread) text))
    (scripts_from (j + 1) (varied_texts delays (thread + 1) texts))
    (varied_script (delays thread) text script (works thread) first)
    (faults_from delays works (i + 1) (j + 1) (thread + 1) texts rest k fault others) now
  where
    by_script : (first : Result (List Line) Fault)
        (others : Result (List (List Line)) (ℕ × Fault)) {script : List Line}
        → (first ≡ Err too_long) ⊎ (first ≡ Ok script)
        → (others ≡ Err (k, fault) → fault ≡ too_long)
        → script_before j first others ≡ Err (k, fault) → fault ≡ too_long
    by_script (Err why) others (inl long) later now =
        let told : ◌≡◌ {A = ℕ × Fault} (j, why) (k, fault) = cc in
        let same = ap (λ (p : ℕ × Fault). p.1) told in
        cc
    by_script (Err why) others (inr good) later now = cc
    by_script (Ok script) others (inl long) later now = cc
    by_script (Ok script) (Ok rest) (inr good) later now = cc
    by_script (Ok script) (Err why) (inr good) later now = later now

pub only_too_long : OnlyTooLong
only_too_long delays texts scripts thread fault works read now =
    faults_from delays works 0 0 0 texts scripts thread fault read now
