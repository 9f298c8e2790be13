-- No float is among the values of runs and logs, so their texts are known.
use Rattle.std.proofs.Common.{◌≡◌, ℕ, ℤ, pos, negsuc, Bool, true, false, ◌||◌, List, [], ◌∷◌, ◌++◌, Option, Some, None}
use Rattle.std.proofs.Common.{Ordering, Less, Equal, Greater, nat_cmp, if◌then◌else◌, codes, map, refl}
use Rattle.std.specs.Cmp.Lexicographic.{slice_cmp}
use Rattle.std.specs.Ordering.{match_ordering}
use Rattle.answered_calls.specs.Operands as said
use Rattle.answered_calls.specs.Operands.{NamedSaid, Said, operands_of}
use Rattle.posix_terms.specs.Calls.{Call}
use Rattle.posix_terms.specs.Errors.{name_of}
use Rattle.posix_terms.specs.Replies.{kind_code}
use Rattle.posix_terms.specs.declared.call.OpenFlags.{OpenFlags}
use Rattle.posix_terms.specs.declared.reply.Reply.{Reply}
use Rattle.posix_terms.specs.declared.reply.Reply.TheVariants as reply
use Rattle.serde_json.specs.Data.{Data, Members, array, boolean, no_members, member, put, string}
use Rattle.serde_json.specs.View.{items_of}
use Rattle.serde_json.specs.Written.{has_float, items_have_float, members_have_float}
use Rattle.thread_scripts.specs.Words.{is_ascii}
use Rattle.json_views.specs.Calls.{arguments_of, arguments_value, flag_word, flags_value, member_of}
use Rattle.json_views.specs.Calls.{number_value, pair_value, reply_value, said_value, stat_value}
use Rattle.json_views.specs.Exact.{AllExact, AreExact}
use Rattle.json_views.specs.Objects.{Member, count_value, hex_value, object_of, optional_value, text_value}
use Rattle.json_views.specs.Objects.{with_members}

either : (a b : Bool) → (a || b) ≡ false → (a ≡ false) × (b ≡ false)
either false false none = (refl, refl)
either false true none = cc
either true b none = cc

neither : (a b : Bool) → a ≡ false → b ≡ false → (a || b) ≡ false
neither a b first second = rw (first, second) refl

in_order : (o : Ordering) (a b c : Members) → members_have_float a ≡ false → members_have_float b ≡ false
    → members_have_float c ≡ false → members_have_float (match_ordering o a b c) ≡ false
in_order Less a b c p q r = p
in_order Equal a b c p q r = q
in_order Greater a b c p q r = r

put_exact : (name : List ℕ) (d : Data) (members : Members) → has_float d ≡ false → members_have_float members ≡ false
    → members_have_float (put name d members) ≡ false
put_exact name d no_members exact others = neither (has_float d) false exact refl
put_exact name d (member other e rest) exact others =
    let both = either (has_float e) (members_have_float rest) others in
    in_order (slice_cmp nat_cmp name other) _ _ _
    (neither (has_float d) (has_float e || members_have_float rest) exact others)
    (neither (has_float d) (members_have_float rest) exact both.1)
    (neither (has_float e) (members_have_float (put name d rest)) both.0 (put_exact name d rest exact both.1))

with_exact : (before : Members) (more : List Member) → members_have_float before ≡ false → AreExact more
    → members_have_float (with_members before more) ≡ false
with_exact before [] none exact = none
with_exact before (m ∷ more) none exact =
    with_exact (put m.0 m.1 before) more (put_exact m.0 m.1 before exact.0 none) exact.1

pub object_exact : (members : List Member) → AreExact members → has_float (object_of members) ≡ false
object_exact members exact = with_exact no_members members refl exact

pub array_exact : (values : List Data) → AllExact values → has_float (array (items_of values)) ≡ false
array_exact [] exact = refl
array_exact (value ∷ more) exact = neither (has_float value) _ exact.0 (array_exact more exact.1)

number_exact : (n : ℤ) → has_float (number_value n) ≡ false
number_exact (pos n) = refl
number_exact (negsuc n) = refl

pub optional_exact : (n : Option ℕ) → has_float (optional_value n) ≡ false
optional_exact None = refl
optional_exact (Some n) = refl

of_either : (b : Bool) (x y : Data) → has_float x ≡ false → has_float y ≡ false → has_float (if b then x else y) ≡ false
of_either true x y p q = p
of_either false x y p q = q

pub text_exact : (text : List ℕ) → has_float (text_value text) ≡ false
text_exact text = of_either (is_ascii text) _ _ refl (object_exact ((codes "hex", hex_value text) ∷ []) (refl, tt))

flag_exact : (is_set : Bool) (word : List ℕ) (others : List Data) → items_have_float (items_of others) ≡ false
    → items_have_float (items_of (flag_word is_set word ++ others)) ≡ false
flag_exact true word others more = more
flag_exact false word others more = more

last_exact : (is_set : Bool) (word : List ℕ) → items_have_float (items_of (flag_word is_set word)) ≡ false
last_exact true word = refl
last_exact false word = refl

flags_exact : (flags : OpenFlags) → has_float (flags_value flags) ≡ false
flags_exact flags =
    let last = flag_word flags.nonblock (codes "nonblock") in
    let two = flag_word flags.append (codes "append") ++ last in
    let three = flag_word flags.truncate (codes "trunc") ++ two in
    let four = flag_word flags.exclusive (codes "excl") ++ three in
    flag_exact flags.create (codes "create") four
    (flag_exact flags.exclusive (codes "excl") three
    (flag_exact flags.truncate (codes "trunc") two
    (flag_exact flags.append (codes "append") last
    (last_exact flags.nonblock (codes "nonblock")))))

said_exact : (s : Said ℤ (List ℕ)) → has_float (said_value s) ≡ false
said_exact (said.Descriptor n) = number_exact n
said_exact (said.Number n) = number_exact n
said_exact (said.Bytes bytes) = refl
said_exact (said.Path path) = text_exact path
said_exact (said.Word word) = refl
said_exact (said.Flags flags) = flags_exact flags

members_exact : (operands : List (NamedSaid ℤ (List ℕ))) → AreExact (map member_of operands)
members_exact [] = tt
members_exact (operand ∷ more) = (said_exact operand.1, members_exact more)

pub arguments_exact : (c : Call) → has_float (arguments_value c) ≡ false
arguments_exact c = object_exact (arguments_of c) (members_exact (operands_of c))

one_exact : (name : List ℕ) (d : Data) → has_float d ≡ false → has_float (object_of ((name, d) ∷ [])) ≡ false
one_exact name d exact = object_exact ((name, d) ∷ []) (exact, tt)

pair_exact : (first second : ℤ) → has_float (pair_value first second) ≡ false
pair_exact first second =
    neither (has_float (number_value first)) _ (number_exact first)
    (neither (has_float (number_value second)) false (number_exact second) refl)

stat_exact : (kind size links : ℕ) → has_float (stat_value kind size links) ≡ false
stat_exact kind size links =
    object_exact
    ((codes "kind", count_value kind) ∷ (codes "size", count_value size) ∷ (codes "links", count_value links) ∷ [])
    (refl, (refl, (refl, tt)))

pub reply_exact : (r : Reply) → has_float (reply_value r) ≡ false
reply_exact (reply.Count count) = one_exact (codes "count") (count_value count) refl
reply_exact (reply.Data bytes) = one_exact (codes "data") (hex_value bytes) refl
reply_exact (reply.Number n) = one_exact (codes "number") (number_value n) (number_exact n)
reply_exact (reply.Pair first second) = one_exact (codes "pair") (pair_value first second) (pair_exact first second)
reply_exact (reply.Stat kind size links) =
    one_exact (codes "stat") (stat_value (kind_code kind) size links) (stat_exact (kind_code kind) size links)
reply_exact reply.Done = one_exact (codes "done") (boolean true) refl
reply_exact (reply.Fail error) = one_exact (codes "fail") (string (name_of error)) refl
