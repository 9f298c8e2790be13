-- Each door that has to be there is there, whatever the calls are that take doors along: by the claims of the threads,
-- by which numbers are those of doors, and by the doors alone.
use Rattle.std.proofs.Common.{◌≡◌, ◌⊎◌, ℕ, ◌<◌, ◌≤◌, List, length, set, Option, Some, None, Bool, true, false}
use Rattle.std.proofs.Common.{is_some, inl, inr, sym, refl, ap, ◌∙◌, subst, ⊎_elim}
use Rattle.std.proofs.lemmas.Bool.{cases_eq, cases_lt, false≢true, true≢false}
use Rattle.std.proofs.lemmas.List.{get_or-set_other, get_or-set_same, get_or_past, length-set}
use Rattle.std.proofs.lemmas.Option.{none-some, same_Some}
use Rattle.posix_terms.specs.declared.object.Door.{Door}
use Rattle.machine.specs.Doors.{put, without}
use Rattle.machine.specs.DoorsThere.{AreThere, Claim, Has, IsHome, Needs, Stage, is_there}
use Rattle.call_turns.specs.Doors.{is_listener}
use Rattle.machine.specs.DoorsThere.Needs.{GoesWith, IsBorn, WasOpened}
use Rattle.machine.specs.DoorsThere.Stage.{Back, Going, Out}

pub by_bool : {A : Type 0} (b : Bool) → (b ≡ true → A) → (b ≡ false → A) → A
by_bool true t f = t refl
by_bool false t f = f refl

-- ## Locks

-- what locks there are to claims: one thread has that of an object, and a call that freed the table takes along the
-- door whose lock it has
pub record AreLocked (claims : ℕ → Option Claim) : Type 0 where
  pub object : (i k n : ℕ) (c e : Claim) → claims i ≡ Some c → claims k ≡ Some e → c.locks ≡ Some n → e.locks ≡ Some n
      → i ≡ k
  pub frees : (i n : ℕ) (c : Claim) → claims i ≡ Some c → c.keeps ≡ false → c.takes ≡ Some n → c.locks ≡ Some n

-- under the same claims, and where no number is that of a new door
pub same_claims : (D : Type 0) (claims later : ℕ → Option Claim) (named after : ℕ → Door → Type 0)
    (doors : List (Option D)) → ((i : ℕ) → later i ≡ claims i) → ((n : ℕ) (d : Door) → after n d → named n d)
    → AreThere D claims named doors → AreThere D later after doors
same_claims D claims later named after doors same names h =
    record {
      needed = λ n x. h.needed n (still n x);
      apart = λ i n c d has frees takes is. h.apart i n c d (sym (same i) ∙ has) frees takes (names n d is);
      own = λ i k n c e has also takes his. h.own i k n c e (sym (same i) ∙ has) (sym (same k) ∙ also) takes his;
      kinds = λ i c has. h.kinds i c (sym (same i) ∙ has);
    }
  where
    still : (n : ℕ) → Needs later after n → Needs claims named n
    still n (IsBorn d is home) = IsBorn d (names n d is) (λ i c has out takes. home i c (same i ∙ has) out takes)
    still n (GoesWith i c has goes takes) = GoesWith i c (sym (same i) ∙ has) goes takes
    still n (WasOpened i c has back keeps locks) = WasOpened i c (sym (same i) ∙ has) back keeps locks

-- ## An event of one thread

-- the claims of the other threads stay
pub record OthersStay (claims later : ℕ → Option Claim) (i : ℕ) : Type 0 where
  pub same : (k : ℕ) → (i ≡ k → ⊥) → later k ≡ claims k

-- the thread opened the door of this number, which its call is to name
pub record HasOpened (claims : ℕ → Option Claim) (i n : ℕ) : Type 0 where
  pub claim : Claim
  pub has : claims i ≡ Some claim
  pub back : claim.stage ≡ Back true
  pub keeps : claim.keeps ≡ true
  pub locks : claim.locks ≡ Some n

-- what was granted: the thread had no claim and kept the table; the call's door is named, is a listener where the call
-- keeps the table, and after it, is apart
pub record IsGranted (claims later : ℕ → Option Claim) (named after : ℕ → Door → Type 0) (i : ℕ) (c : Claim)
    : Type 0 where
  pub before : claims i ≡ None
  pub now : later i ≡ Some c
  pub goes : c.stage ≡ Going
  pub table : (k : ℕ) (e : Claim) → claims k ≡ Some e → e.keeps ≡ true → i ≡ k
  pub finds : (n : ℕ) → c.takes ≡ Some n → (d : Door) × (named n d × (c.keeps ≡ true → is_listener d ≡ true))
  pub apart : (n : ℕ) (d : Door) → c.keeps ≡ false → c.takes ≡ Some n → after n d
      → (is_listener d ≡ false) × (c.returns ≡ true)
  pub kinds : (is_some c.takes ≡ c.along) × ((n : ℕ) → c.keeps ≡ true → c.takes ≡ Some n → c.returns ≡ true)

module _ (claims later : ℕ → Option Claim) (i : ℕ) (others : OthersStay claims later i) where
  -- by a claim, of the thread or of another one
  by_thread : {A : Type 0} (k : ℕ) (c : Claim) → later k ≡ Some c → (later i ≡ Some c → A)
      → ((i ≡ k → ⊥) → claims k ≡ Some c → A) → A
  by_thread k c has own other =
      ⊎_elim (λ (same : i ≡ k). own (ap later same ∙ has))
      (λ (apart : i ≡ k → ⊥). other apart (sym (others.same k apart) ∙ has)) (cases_eq i k)

  -- who is not home was not before, but for the thread
  home_back : (n : ℕ) → ((c : Claim) → claims i ≡ Some c → c.stage ≡ Out → c.takes ≡ Some n → ⊥) → IsHome later n
      → IsHome claims n
  home_back n own home k c has out takes =
      ⊎_elim (λ (same : i ≡ k). own c (ap claims same ∙ has) out takes)
      (λ (apart : i ≡ k → ⊥). home k c (others.same k apart ∙ has) out takes) (cases_eq i k)

  -- what has to be there after it had to before, or by the thread's own claim
  needs_by : {A : Type 0} (named after : ℕ → Door → Type 0) (n : ℕ) → ((d : Door) → after n d → IsHome later n → A)
      → ((c : Claim) → later i ≡ Some c → c.stage ≡ Going → c.takes ≡ Some n → A)
      → ((c : Claim) → later i ≡ Some c → c.stage ≡ Back true → c.keeps ≡ true → c.locks ≡ Some n → A)
      → (Needs claims named n → A) → Needs later after n → A
  needs_by named after n born going opened still (IsBorn d is home) = born d is home
  needs_by named after n born going opened still (GoesWith k c has goes takes) =
      by_thread k c has (λ own. going c own goes takes)
      (λ apart was. still (GoesWith k c was goes takes))
  needs_by named after n born going opened still (WasOpened k c has back keeps locks) =
      by_thread k c has (λ own. opened c own back keeps locks)
      (λ apart was. still (WasOpened k c was back keeps locks))

  -- claims are as far apart as before
  apart_by : (D : Type 0) (named after : ℕ → Door → Type 0) (doors : List (Option D)) → AreThere D claims named doors
      → ((k n : ℕ) (c : Claim) (d : Door) → (i ≡ k → ⊥) → claims k ≡ Some c → c.keeps ≡ false → c.takes ≡ Some n
      → after n d → named n d)
      → ((n : ℕ) (c : Claim) (d : Door) → later i ≡ Some c → c.keeps ≡ false → c.takes ≡ Some n → after n d
      → (is_listener d ≡ false) × (c.returns ≡ true))
      → (k n : ℕ) (c : Claim) (d : Door) → later k ≡ Some c → c.keeps ≡ false → c.takes ≡ Some n → after n d
      → (is_listener d ≡ false) × (c.returns ≡ true)
  apart_by D named after doors h names own k n c d has frees takes is =
      by_thread k c has (λ mine. own n c d mine frees takes is)
      (λ apart was. h.apart k n c d was frees takes (names k n c d apart was frees takes is))

  -- a call that opened a door names it, and the thread has no claim any more
  pub settled : (D : Type 0) (named after : ℕ → Door → Type 0) (doors : List (Option D)) → AreLocked claims
      → later i ≡ None → ((c : Claim) → claims i ≡ Some c → c.stage ≡ Out → ⊥)
      → ((n : ℕ) (d : Door) → after n d → named n d ⊎ HasOpened claims i n)
      → AreThere D claims named doors → AreThere D later after doors
  settled D named after doors locked none inside names h =
      record {
        needed = λ n x. h.needed n (needs_by named after n
            (λ d is home. ⊎_elim
            (λ old. IsBorn d old (home_back n (λ c has out takes. inside c has out) home))
            (λ new. WasOpened i new.claim new.has new.back new.keeps new.locks) (names n d is))
            (λ c has goes takes. absurd (cc)) (λ c has back keeps locks. absurd (cc)) (λ still. still) x);
        apart = apart_by D named after doors h
            (λ k n c d apart has frees takes is. ⊎_elim (λ old. old)
            (λ new. absurd (apart (sym (locked.object k i n c new.claim has new.has (locked.frees k n c has frees takes)
            new.locks)))) (names n d is))
            (λ n c d has frees takes is. absurd (cc));
        own = λ j k n c e has also takes his. h.own j k n c e (was j c has) (was k e also) takes his;
        kinds = λ j c has. h.kinds j c (was j c has);
      }
    where
      was : (k : ℕ) (c : Claim) → later k ≡ Some c → claims k ≡ Some c
      was k c has = by_thread k c has (λ own. absurd (cc)) (λ apart old. old)

  -- the call that was granted goes outside: its door is at home, since whoever were outside with it would hold a lock
  -- that the thread has
  pub granted : (D : Type 0) (named after : ℕ → Door → Type 0) (doors : List (Option D)) (c : Claim) → AreLocked later
      → IsGranted claims later named after i c → ((n : ℕ) (d : Door) → after n d → named n d)
      → AreThere D claims named doors → AreThere D later after doors
  granted D named after doors c locked g names h =
      record {
        needed = λ n x. h.needed n (needs_by named after n
            (λ d is home. IsBorn d (names n d is) (home_back n (λ e was out takes. cc) home))
            (λ e mine going takes. at_home n (cc)) (λ e mine back keeps locks. absurd (cc)) (λ still. still) x);
        apart = apart_by D named after doors h (λ k n e d apart was frees takes is. names n d is)
            (λ n e d mine frees takes is. let r = g.apart n d (cc) (cc) is in (r.0, (cc)));
        own = λ j k n x e has also takes his.
            ⊎_elim
            (λ (here : i ≡ j). ⊎_elim (λ (also_here : i ≡ k). sym here ∙ also_here)
            (λ (apart : i ≡ k → ⊥). absurd (apart (first k n e (was k e apart also) (cc) his))) (cases_eq i k))
            (λ (apart : i ≡ j → ⊥). ⊎_elim
            (λ (here : i ≡ k). absurd (apart (second j n x (was j x apart has) takes
            (subst (λ (y : Claim). Has y n) (sym (is_own e (ap later here ∙ also))) his))))
            (λ (other : i ≡ k → ⊥). h.own j k n x e (was j x apart has) (was k e other also) takes his) (cases_eq i k))
            (cases_eq i j);
        kinds = λ k e has. by_thread k e has
            (λ mine. subst (λ (y : Claim). (is_some y.takes ≡ y.along) × ((n : ℕ) → y.keeps ≡ true → y.takes ≡ Some n
            → y.returns ≡ true)) (is_own e mine) g.kinds) (λ apart was. h.kinds k e was);
      }
    where
      is_own : (e : Claim) → later i ≡ Some e → c ≡ e
      is_own e mine = cc

      other : (k : ℕ) (e : Claim) → claims k ≡ Some e → i ≡ k → ⊥
      other k e was same = cc

      was : (k : ℕ) (e : Claim) → (i ≡ k → ⊥) → later k ≡ Some e → claims k ≡ Some e
      was k e apart has = sym (others.same k apart) ∙ has

      now : (k : ℕ) (e : Claim) → claims k ≡ Some e → later k ≡ Some e
      now k e was = others.same k (other k e was) ∙ was

      -- nobody else has its door
      first : (k n : ℕ) (e : Claim) → claims k ≡ Some e → c.takes ≡ Some n → Has e n → i ≡ k
      first k n e was takes (inl also) = by_bool e.keeps (g.table k e was)
          (λ frees. by_bool c.keeps
          (λ keeps. let d = g.finds n takes in
          absurd (true≢false (sym (d.1.1 keeps) ∙ (h.apart k n e d.0 was frees also d.1.0).0)))
          (λ both. locked.object i k n c e g.now (now k e was) (locked.frees i n c g.now both takes)
          (locked.frees k n e (now k e was) frees also)))
      first k n e was takes (inr opens) = g.table k e was opens.0

      -- and it has no door that another has
      second : (k n : ℕ) (e : Claim) → claims k ≡ Some e → e.takes ≡ Some n → Has c n → i ≡ k
      second k n e was takes (inl also) = first k n e was also (inl takes)
      second k n e was takes (inr opens) = by_bool e.keeps (g.table k e was)
          (λ frees. locked.object i k n c e g.now (now k e was) opens.1 (locked.frees k n e (now k e was) frees takes))

      at_home : (n : ℕ) → c.takes ≡ Some n → Needs claims named n
      at_home n takes =
          let d = g.finds n takes in
          IsBorn d.0 d.1.0 (λ k e was out also. other k e was (first k n e was takes (inl also)))

-- ## Going outside

there_other : (D : Type 0) (doors : List (Option D)) (m n : ℕ) (o : Option D) → (n ≡ m → ⊥)
    → is_there (set doors m o) n ≡ is_there doors n
there_other D doors m n o apart = ap is_some (get_or-set_other doors m n o None apart)

without_other : (D : Type 0) (doors : List (Option D)) (o : Option ℕ) (n : ℕ) → (o ≡ Some n → ⊥)
    → is_there doors n ≡ true → is_there (without doors o) n ≡ true
without_other D doors None n apart old = old
without_other D doors (Some m) n apart old = there_other D doors m n None (λ same. apart (ap Some (sym same))) ∙ old

-- a call that goes on has what it had
pub record GoesOn (claims later : ℕ → Option Claim) (i : ℕ) (c : Claim) (stage : Stage) : Type 0 where
  pub others : OthersStay claims later i
  pub has : claims i ≡ Some c
  pub now : later i ≡ Some (record c { stage = stage })

module _ (claims later : ℕ → Option Claim) (i : ℕ) (c : Claim) (at : Stage) (g : GoesOn claims later i c at) where
  own_is : (e : Claim) → later i ≡ Some e → record c { stage = at } ≡ e
  own_is e mine = same_Some (record c { stage = at }) e (sym g.now ∙ mine)

  -- each claim is one from before, but for its stage
  was_of : {A : Type 0} (k : ℕ) (e : Claim) → later k ≡ Some e
      → ((x : Claim) → claims k ≡ Some x → record x { stage = e.stage } ≡ e → A) → A
  was_of {A} k e has f =
      by_thread claims later i g.others k e has
      (λ mine. let same = own_is e mine in by_place same (cases_eq i k))
      (λ apart was. f e was refl)
    where
      by_place : record c { stage = at } ≡ e → (i ≡ k) ⊎ (i ≡ k → ⊥) → A
      by_place same (inl here) = f c (ap claims (sym here) ∙ g.has)
          (ap (λ (x : Stage). record c { stage = x }) (ap (λ (y : Claim). y.stage) (sym same)) ∙ same)
      by_place same (inr apart) = f e (sym (let o = g.others in o.same k apart) ∙ has) refl

  going_on : (D : Type 0) (named : ℕ → Door → Type 0) (doors after : List (Option D)) → AreThere D claims named doors
      → ((n : ℕ) → Needs later named n → is_there after n ≡ true) → AreThere D later named after
  going_on D named doors after h needed =
      record {
        needed = needed;
        apart = λ k n e d has frees takes is. was_of k e has (λ x was same.
            let r = h.apart k n x d was (cc) (cc) is in (r.0, (cc)));
        own = λ j k n x e has also takes his. was_of j x has (λ y was same.
            was_of k e also (λ z old is. h.own j k n y z was old (cc) (has_of z e n is his)));
        kinds = λ k e has. was_of k e has (λ x was same.
            subst (λ (y : Claim). (is_some y.takes ≡ y.along) × ((n : ℕ) → y.keeps ≡ true → y.takes ≡ Some n
            → y.returns ≡ true)) same (h.kinds k x was));
      }
    where
      has_of : (z e : Claim) (n : ℕ) → record z { stage = e.stage } ≡ e → Has e n → Has z n
      has_of z e n is (inl takes) = inl (cc)
      has_of z e n is (inr opens) = inr ((cc), (cc))

-- the door goes out with its thread
pub begun : (D : Type 0) (claims later : ℕ → Option Claim) (named : ℕ → Door → Type 0) (doors : List (Option D)) (i : ℕ)
    (c : Claim) → GoesOn claims later i c Out → c.stage ≡ Going → AreThere D claims named doors
    → AreThere D later named (without doors c.takes)
begun D claims later named doors i c g goes h =
    going_on claims later i c Out g D named doors (without doors c.takes) h
    (λ n x. without_other D doors c.takes n (λ takes. taken n takes x) (h.needed n (back n x)))
  where
    back : (n : ℕ) → Needs later named n → Needs claims named n
    back n x = needs_by claims later i g.others named named n
        (λ d is home. IsBorn d is (home_back claims later i g.others n (λ e was out takes. cc) home))
        (λ e mine going takes. absurd (cc)) (λ e mine back keeps locks. absurd (cc)) (λ still. still) x

    -- its door is nobody else's
    taken : (n : ℕ) → c.takes ≡ Some n → Needs later named n → ⊥
    taken n takes (IsBorn d is home) = home i (record c { stage = Out }) g.now refl takes
    taken n takes (GoesWith k e its going also) =
        by_thread claims later i g.others k e its (λ mine. cc)
        (λ apart was. apart (h.own i k n c e g.has was takes (inl also)))
    taken n takes (WasOpened k e its back keeps locks) =
        by_thread claims later i g.others k e its (λ mine. cc)
        (λ apart was. apart (h.own i k n c e g.has was takes (inr (keeps, locks))))

-- ## Coming back

there_put : (D : Type 0) (doors : List (Option D)) (o : Option ℕ) (x : Option D) (n : ℕ) → is_there doors n ≡ true
    → is_there (put doors o x) n ≡ true
there_put D doors (Some m) (Some d) n old =
    ⊎_elim
    (λ (own : n ≡ m). ⊎_elim
    (λ (l : m < length doors). ap (λ (q : ℕ). is_there (set doors m (Some d)) q) own
    ∙ ap is_some (get_or-set_same doors m (Some d) None l))
    (λ (past : length doors ≤ m). let none = get_or_past doors m None past in
    absurd (false≢true (sym (ap (is_there doors) own ∙ ap is_some none) ∙ old)))
    (cases_lt m (length doors)))
    (λ (apart : n ≡ m → ⊥). there_other D doors m n (Some d) apart ∙ old) (cases_eq n m)
there_put D doors (Some m) None n old = old
there_put D doors None (Some d) n old = old
there_put D doors None None n old = old

put_there : (D : Type 0) (doors : List (Option D)) (o : Option ℕ) (n : ℕ) (x : Option D) → o ≡ Some n
    → n < length doors → is_some x ≡ true → is_there (put doors o x) n ≡ true
put_there D doors o n (Some d) is l some = ap (λ (m : Option ℕ). is_there (put doors m (Some d)) n) is
    ∙ ap is_some (get_or-set_same doors n (Some d) None l)
put_there D doors o n None is l some = absurd (false≢true some)

put_count : (D : Type 0) (doors : List (Option D)) (o : Option ℕ) (x : Option D) → length (put doors o x) ≡ length doors
put_count D doors (Some n) (Some d) = length-set doors n (Some d)
put_count D doors (Some n) None = refl
put_count D doors None (Some d) = refl
put_count D doors None None = refl

-- whether a number is this one
is_this : (o : Option ℕ) (n : ℕ) → (o ≡ Some n) ⊎ (o ≡ Some n → ⊥)
is_this None n = inr (λ e. none-some n e)
is_this (Some m) n = ⊎_elim (λ (same : m ≡ n). inl (ap Some same))
    (λ (apart : m ≡ n → ⊥). inr (λ e. apart (same_Some m n e))) (cases_eq m n)

-- the door comes back, and that which was opened has its place
pub came_back : (D : Type 0) (claims later : ℕ → Option Claim) (named : ℕ → Door → Type 0) (doors : List (Option D))
    (i : ℕ) (c : Claim) (ok : Bool) (back opened : Option D) → GoesOn claims later i c (Back ok) → c.stage ≡ Out
    → ((n : ℕ) → c.locks ≡ Some n → n < length doors) → ((n : ℕ) (d : Door) → named n d → n < length doors)
    → (c.returns ≡ true → is_some back ≡ true) → (c.keeps ≡ true → ok ≡ true → is_some opened ≡ true)
    → AreThere D claims named doors → AreThere D later named (put (put doors c.takes back) c.locks opened)
came_back D claims later named doors i c ok back opened g out inside within comes opens h =
    going_on claims later i c (Back ok) g D named doors (put first c.locks opened) h
    (λ n x. needs_by claims later i g.others named named n (by_home n)
    (λ e mine going takes. absurd (cc)) (by_opened n) (λ still. more n (h.needed n still)) x)
  where
    first : List (Option D)
    first = put doors c.takes back

    more : (n : ℕ) → is_there doors n ≡ true → is_there (put first c.locks opened) n ≡ true
    more n old = there_put D first c.locks opened n (there_put D doors c.takes back n old)

    by_home : (n : ℕ) (d : Door) → named n d → IsHome later n → is_there (put first c.locks opened) n ≡ true
    by_home n d is home =
        ⊎_elim
        (λ (takes : c.takes ≡ Some n). there_put D first c.locks opened n
        (put_there D doors c.takes n back takes (within n d is) (comes (by_bool c.keeps
        (λ keeps. (h.kinds i c g.has).1 n keeps takes) (λ frees. (h.apart i n c d g.has frees takes is).1)))))
        (λ (apart : c.takes ≡ Some n → ⊥). more n (h.needed n (IsBorn d is (home_back claims later i g.others n
        (λ e was gone takes. apart (cc)) home))))
        (is_this c.takes n)

    by_opened : (n : ℕ) (e : Claim) → later i ≡ Some e → e.stage ≡ Back true → e.keeps ≡ true → e.locks ≡ Some n
        → is_there (put first c.locks opened) n ≡ true
    by_opened n e mine at keeps locks =
        let here : c.locks ≡ Some n = cc in
        put_there D first c.locks n opened here
        (subst (λ (m : ℕ). n < m) (sym (put_count D doors c.takes back)) (inside n here)) (opens (cc) (cc))
