-- What is written of what is wanted is read back.
use Rattle.std.proofs.Common.{◌≡◌, ◌∙◌, ap, ℕ, suc, ◌<◌, ◌^◌, ◌==◌, Bool, true, false, not, ◌&&◌, All, List, [], ◌∷◌}
use Rattle.std.proofs.Common.{codes, bytes_eq, decimal, length, ℤ, pos, negsuc, IfSome, Option, Some, None, refl, arith}
use Rattle.std.proofs.Common.{inl, inr, lit<}
use Rattle.std.specs.Fmt.{signed_decimal}
use Rattle.std.specs.List.{AllByRecursion, join_with_byte, list_all}
use Rattle.std.proofs.lemmas.Bool.{ne_eqb}
use Rattle.std.proofs.lemmas.List.Sums.{AllPass-from_list_all}
use Rattle.std.proofs.lemmas.List.Splits.{slice_split_at, slice_split_none}
use Rattle.hex.specs.Hex.{encode_lower}
use Rattle.posix_terms.specs.Errors.{name_of}
use Rattle.posix_terms.specs.Replies.{kind_code}
use Rattle.posix_terms.specs.Text.{pieces_of}
use Rattle.posix_terms.specs.declared.errno.Errno.{Errno}
use Rattle.posix_terms.specs.declared.errno.Errno.TheVariants as errno
use Rattle.posix_terms.specs.declared.reply.ObjectKind.{ObjectKind}
use Rattle.posix_terms.specs.declared.reply.ObjectKind.TheVariants as kind
use Rattle.thread_scripts.specs.Numbers.{is_digit, number_of}
use Rattle.expectations.specs.Laws.{HasOperands, HasValues, IsByte, IsSigned, IsSize, NamesLeadBack, NumbersLeadBack}
use Rattle.expectations.specs.Printing.{data_word, excluded_words, operand_word, pattern_words, wanted_text}
use Rattle.expectations.specs.Printing.{wanted_words}
use Rattle.expectations.specs.Words.{data_of, error_of, kind_of, operand, pattern_by, size_of, wanted_of}
use Rattle.expectations.specs.declared.pattern.Pattern.{Pattern}
use Rattle.expectations.specs.declared.pattern.Pattern.TheVariants as pattern
use Rattle.expectations.specs.declared.wanted.Wanted.{Wanted}
use Rattle.expectations.specs.declared.wanted.Wanted.TheVariants as want
use Rattle.expectations.proofs.HexDigits.{decode_back, hex_back, is_plain}
use Rattle.expectations.proofs.Numerals.{both_true, decimal_digits, digit_is_not, negative_back, positive_back}
use Rattle.expectations.proofs.Numerals.{size_back}

abbrev no_space : ℕ → Bool
no_space b = not (b == 32)

-- a word: it is not empty, and has no space
record IsWord (word : List ℕ) : Type 0 where
  some : 0 < length word
  clean : list_all no_space word ≡ true

no_space_is : (b : ℕ) → no_space b ≡ true → (b == 32) ≡ false
no_space_is b clean = at (b == 32) clean where
  at : (space : Bool) → not space ≡ true → space ≡ false
  at true clean = cc
  at false clean = refl

clean_all : (word : List ℕ) → list_all no_space word ≡ true → All (λ b. (b == 32) ≡ false) word
clean_all word clean = λ k d inside. no_space_is _ (AllPass-from_list_all no_space word clean k d inside)

-- words with a space between each two are the pieces of the text
pieces_joined : (words : List (List ℕ)) → AllByRecursion IsWord words → pieces_of 32 (join_with_byte 32 words) ≡ words
pieces_joined [] all = refl
pieces_joined (word ∷ []) all =
    let some : (length word == 0) ≡ false = ne_eqb (length word) 0 (λ e. omega (arith, (all.0).some)) in
    rw (slice_split_none (λ b. b == 32) word (clean_all word (all.0).clean), some) refl
pieces_joined (word ∷ next ∷ words) all =
    let some : (length word == 0) ≡ false = ne_eqb (length word) 0 (λ e. omega (arith, (all.0).some)) in
    rw (
      slice_split_at (λ b. b == 32) word 32 (join_with_byte 32 (next ∷ words)) (clean_all word (all.0).clean) refl,
      some,
    )
    (ap (λ (ws : List (List ℕ)). word ∷ ws) (pieces_joined (next ∷ words) all.1))

-- the word of an operand that is given: it is not `_`
record IsGiven (w : List ℕ) : Type 0 where
  word : IsWord w
  given : bytes_eq w (codes "_") ≡ false

plain_clean : (w : List ℕ) → list_all is_plain w ≡ true → list_all no_space w ≡ true
plain_clean [] plain = refl
plain_clean (b ∷ w) plain =
    let first = both_true (is_plain b) (list_all is_plain w) plain in
    let spaces = both_true (no_space b && not (b == 45)) (not (b == 95)) first.0 in
    rw ((both_true (no_space b) (not (b == 45)) spaces.0).0, plain_clean w first.1) refl

is_not : (b c : ℕ) → not (b == c) ≡ true → (b == c) ≡ false
is_not b c other = at (b == c) other where
  at : (same : Bool) → not same ≡ true → same ≡ false
  at true other = cc
  at false other = refl

plain_given : (w : List ℕ) → list_all is_plain w ≡ true → 0 < length w → IsGiven w
plain_given [] plain some = absurd (omega arith)
plain_given (b ∷ w) plain some =
    let first = both_true (is_plain b) (list_all is_plain w) plain in
    let other = is_not b 95 (both_true (no_space b && not (b == 45)) (not (b == 95)) first.0).1 in
    record { word = record { some = some; clean = plain_clean (b ∷ w) plain }; given = rw other refl }

plain_not_dash : (w : List ℕ) → list_all is_plain w ≡ true → bytes_eq w (codes "-") ≡ false
plain_not_dash [] plain = refl
plain_not_dash (b ∷ w) plain =
    let first = both_true (is_plain b) (list_all is_plain w) plain in
    let other = is_not b 45 (both_true (no_space b) (not (b == 45))
    (both_true (no_space b && not (b == 45)) (not (b == 95)) first.0).0).1 in
    rw other refl

digits_plain : (w : List ℕ) → list_all is_digit w ≡ true → list_all is_plain w ≡ true
digits_plain [] digits = refl
digits_plain (b ∷ w) digits =
    let first = both_true (is_digit b) (list_all is_digit w) digits in
    rw (
      digit_is_not b 32 first.0 (inl (omega arith)),
      digit_is_not b 45 first.0 (inl (omega arith)),
      digit_is_not b 95 first.0 (inr (omega arith)),
      digits_plain w first.1,
    ) refl

decimal_given : (n : ℕ) → n < 2 ^ 64 → IsGiven (decimal n)
decimal_given n fits =
    let digits = decimal_digits n fits in
    plain_given (decimal n) (digits_plain (decimal n) digits.digits) digits.some

-- a word that is read as this, and is not `_`
record IsRead {A : Type 0} (read : List ℕ → Option A) (w : List ℕ) (a : A) : Type 0 where
  value : read w ≡ Some a
  given : IsGiven w

size_read : (n : ℕ) → IsSize n → IsRead size_of (decimal n) n
size_read n fits = record { value = size_back n fits; given = decimal_given n fits }

signed_read : (n : ℤ) → IsSigned n → IsRead number_of (signed_decimal n) n
signed_read (pos n) fits = record { value = positive_back n fits; given = decimal_given n (omega arith) }
signed_read (negsuc n) fits =
    let digits = decimal_given (suc n) (omega arith) in
    record {
      value = negative_back n fits;
      given = record { word = record { some = omega arith; clean = rw digits.word.clean refl }; given = refl };
    }

data_read : (bytes : List ℕ) → All IsByte bytes → IsRead data_of (data_word bytes) bytes
data_read [] all = record {
  value = refl;
  given = record { word = record { some = lit< tt; clean = refl }; given = refl };
}
data_read (b ∷ bytes) all =
    let hex = hex_back (b ∷ bytes) all in
    let some : 0 < length (encode_lower (b ∷ bytes)) = rw hex.long (omega arith) in
    let dash = plain_not_dash (encode_lower (b ∷ bytes)) hex.plain in
    let empty : (length (b ∷ bytes) == 0) ≡ false = ne_eqb (suc (length bytes)) 0 (λ e. omega arith) in
    rw empty (record {
      value = rw (dash, decode_back (b ∷ bytes) all) refl;
      given = plain_given (encode_lower (b ∷ bytes)) hex.plain some;
    })

kind_small : (kind : ObjectKind) → kind_code kind < 10
kind_small kind.File = lit< tt
kind_small kind.Pipe = lit< tt
kind_small kind.SocketPair = lit< tt
kind_small kind.HostFile = lit< tt
kind_small kind.Listener = lit< tt
kind_small kind.Stream = lit< tt

kind_read : NumbersLeadBack → (kind : ObjectKind) → IsRead kind_of (decimal (kind_code kind)) kind
kind_read back kind =
    let fits : kind_code kind < 2 ^ 64 = omega (arith, kind_small kind) in
    record { value = rw (size_back (kind_code kind) fits) (back kind); given = decimal_given (kind_code kind) fits }

name_given : (error : Errno) → IsGiven (name_of error)
name_given errno.EBADF = plain_given (codes "EBADF") refl (lit< tt)
name_given errno.EINVAL = plain_given (codes "EINVAL") refl (lit< tt)
name_given errno.EOVERFLOW = plain_given (codes "EOVERFLOW") refl (lit< tt)
name_given errno.ESPIPE = plain_given (codes "ESPIPE") refl (lit< tt)
name_given errno.EFBIG = plain_given (codes "EFBIG") refl (lit< tt)
name_given errno.EAGAIN = plain_given (codes "EAGAIN") refl (lit< tt)
name_given errno.EPIPE = plain_given (codes "EPIPE") refl (lit< tt)
name_given errno.EINTR = plain_given (codes "EINTR") refl (lit< tt)
name_given errno.EIO = plain_given (codes "EIO") refl (lit< tt)
name_given errno.ENOENT = plain_given (codes "ENOENT") refl (lit< tt)
name_given errno.EEXIST = plain_given (codes "EEXIST") refl (lit< tt)
name_given errno.ENOTDIR = plain_given (codes "ENOTDIR") refl (lit< tt)
name_given errno.EISDIR = plain_given (codes "EISDIR") refl (lit< tt)
name_given errno.ENOTEMPTY = plain_given (codes "ENOTEMPTY") refl (lit< tt)
name_given errno.EPERM = plain_given (codes "EPERM") refl (lit< tt)
name_given errno.EACCES = plain_given (codes "EACCES") refl (lit< tt)
name_given errno.EMFILE = plain_given (codes "EMFILE") refl (lit< tt)
name_given errno.ENFILE = plain_given (codes "ENFILE") refl (lit< tt)
name_given errno.ENOSPC = plain_given (codes "ENOSPC") refl (lit< tt)
name_given errno.ENAMETOOLONG = plain_given (codes "ENAMETOOLONG") refl (lit< tt)
name_given errno.ENOTSOCK = plain_given (codes "ENOTSOCK") refl (lit< tt)
name_given errno.EBUSY = plain_given (codes "EBUSY") refl (lit< tt)
name_given errno.ECONNREFUSED = plain_given (codes "ECONNREFUSED") refl (lit< tt)
name_given errno.ECONNRESET = plain_given (codes "ECONNRESET") refl (lit< tt)
name_given errno.EADDRINUSE = plain_given (codes "EADDRINUSE") refl (lit< tt)
name_given errno.ETIMEDOUT = plain_given (codes "ETIMEDOUT") refl (lit< tt)

name_read : NamesLeadBack → (error : Errno) → IsRead error_of (name_of error) error
name_read back error = record { value = back error; given = name_given error }

-- an operand is read back, whether it is given or not
record IsBack {A : Type 0} (read : List ℕ → Option A) (w : List ℕ) (o : Option A) : Type 0 where
  value : operand read w ≡ Some o
  word : IsWord w

operand_back : {A : Type 0} (read : List ℕ → Option A) (word : A → List ℕ) (o : Option A)
    → IfSome o (λ a. IsRead read (word a) a) → IsBack read (operand_word word o) o
operand_back read word None given = record { value = refl; word = record { some = lit< tt; clean = refl } }
operand_back read word (Some a) given =
    record { value = rw (given.given.given, given.value) refl; word = given.given.word }

word_ok : (w : List ℕ) → list_all no_space w ≡ true → 0 < length w → IsWord w
word_ok w clean some = record { some = some; clean = clean }

for_some : {A : Type 0} (P Q : A → Type 0) → ((a : A) → P a → Q a) → (o : Option A) → IfSome o P → IfSome o Q
for_some P Q f None p = tt
for_some P Q f (Some a) p = f a p

size_word : (n : Option ℕ) → IfSome n IsSize → IsBack size_of (operand_word decimal n) n
size_word n values = operand_back size_of decimal n
    (for_some IsSize (λ n. IsRead size_of (decimal n) n) size_read n values)

signed_word : (n : Option ℤ) → IfSome n IsSigned → IsBack number_of (operand_word signed_decimal n) n
signed_word n values = operand_back number_of signed_decimal n
    (for_some IsSigned (λ n. IsRead number_of (signed_decimal n) n) signed_read n values)

data_back : (bytes : Option (List ℕ)) → IfSome bytes (All IsByte) → IsBack data_of (operand_word data_word bytes) bytes
data_back bytes values = operand_back data_of data_word bytes
    (for_some (All IsByte) (λ b. IsRead data_of (data_word b) b) data_read bytes values)

kind_back : NumbersLeadBack → (kind : Option ObjectKind)
    → IsBack kind_of (operand_word (λ kind. decimal (kind_code kind)) kind) kind
kind_back numbers kind = operand_back kind_of (λ kind. decimal (kind_code kind)) kind (at kind) where
  at : (kind : Option ObjectKind) → IfSome kind (λ k. IsRead kind_of (decimal (kind_code k)) k)
  at None = tt
  at (Some kind) = kind_read numbers kind

name_back : NamesLeadBack → (error : Option Errno) → IsBack error_of (operand_word name_of error) error
name_back names error = operand_back error_of name_of error (at error) where
  at : (error : Option Errno) → IfSome error (λ e. IsRead error_of (name_of e) e)
  at None = tt
  at (Some error) = name_read names error

-- the words of a pattern are words, and the first names its kind
record IsPatternBack (words : List (List ℕ)) (pattern : Pattern) : Type 0 where
  all : AllByRecursion IsWord words
  value : wanted_of words ≡ Some (want.Match pattern)
  excluded : wanted_of (codes "not" ∷ words) ≡ Some (want.Not pattern)

pattern_back : NamesLeadBack → NumbersLeadBack → (pattern : Pattern) → HasOperands pattern
    → IsPatternBack (pattern_words pattern) pattern
unfolding pattern_words pattern_by
pattern_back names numbers (pattern.Count n) values =
    let one = size_word n values in
    record {
      all = (word_ok (codes "count") refl (lit< tt), (one.word, tt));
      value = rw one.value refl;
      excluded = rw one.value refl;
    }
pattern_back names numbers (pattern.Data bytes) values =
    let one = data_back bytes values in
    record {
      all = (word_ok (codes "data") refl (lit< tt), (one.word, tt));
      value = rw one.value refl;
      excluded = rw one.value refl;
    }
pattern_back names numbers (pattern.Number n) values =
    let one = signed_word n values in
    record {
      all = (word_ok (codes "number") refl (lit< tt), (one.word, tt));
      value = rw one.value refl;
      excluded = rw one.value refl;
    }
pattern_back names numbers (pattern.Pair first second) values =
    let one = signed_word first values.0 in
    let two = signed_word second values.1 in
    record {
      all = (word_ok (codes "pair") refl (lit< tt), (one.word, (two.word, tt)));
      value = rw (one.value, two.value) refl;
      excluded = rw (one.value, two.value) refl;
    }
pattern_back names numbers (pattern.Stat kind number links) values =
    let one = kind_back numbers kind in
    let two = size_word number values.0 in
    let three = size_word links values.1 in
    record {
      all = (word_ok (codes "stat") refl (lit< tt), (one.word, (two.word, (three.word, tt))));
      value = rw (one.value, two.value, three.value) refl;
      excluded = rw (one.value, two.value, three.value) refl;
    }
pattern_back names numbers pattern.Done values = record {
  all = (word_ok (codes "done") refl (lit< tt), tt);
  value = refl;
  excluded = refl;
}
pattern_back names numbers (pattern.Fail error) values =
    let one = name_back names error in
    record {
      all = (word_ok (codes "fail") refl (lit< tt), (one.word, tt));
      value = rw one.value refl;
      excluded = rw one.value refl;
    }

read_words : (words : List (List ℕ)) (wanted : Wanted) → AllByRecursion IsWord words → wanted_of words ≡ Some wanted
    → wanted_of (pieces_of 32 (join_with_byte 32 words)) ≡ Some wanted
read_words words wanted all value = ap wanted_of (pieces_joined words all) ∙ value

-- the words of another pattern than any failure, after `not`
read_not : (words : List (List ℕ)) (pattern : Pattern) → IsPatternBack words pattern
    → wanted_of (pieces_of 32 (join_with_byte 32 (codes "not" ∷ words))) ≡ Some (want.Not pattern)
read_not words pattern back =
    read_words (codes "not" ∷ words) (want.Not pattern) (word_ok (codes "not") refl (lit< tt), back.all) back.excluded

pub read_back : NamesLeadBack → NumbersLeadBack → (wanted : Wanted) → HasValues wanted
    → wanted_of (pieces_of 32 (wanted_text wanted)) ≡ Some wanted
unfolding wanted_words excluded_words
read_back names numbers (want.Match pattern) values =
    let back = pattern_back names numbers pattern values in
    read_words (pattern_words pattern) (want.Match pattern) back.all back.value
read_back names numbers (want.Not (pattern.Fail None)) values = refl
read_back names numbers (want.Not (pattern.Fail (Some error))) values =
    read_not _ _ (pattern_back names numbers (pattern.Fail (Some error)) values)
read_back names numbers (want.Not (pattern.Count n)) values =
    read_not _ _ (pattern_back names numbers (pattern.Count n) values)
read_back names numbers (want.Not (pattern.Data bytes)) values =
    read_not _ _ (pattern_back names numbers (pattern.Data bytes) values)
read_back names numbers (want.Not (pattern.Number n)) values =
    read_not _ _ (pattern_back names numbers (pattern.Number n) values)
read_back names numbers (want.Not (pattern.Pair first second)) values =
    read_not _ _ (pattern_back names numbers (pattern.Pair first second) values)
read_back names numbers (want.Not (pattern.Stat kind number links)) values =
    read_not _ _ (pattern_back names numbers (pattern.Stat kind number links) values)
read_back names numbers (want.Not pattern.Done) values = read_not _ _ (pattern_back names numbers pattern.Done values)
