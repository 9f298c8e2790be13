-- No float is in the lines of findings.
use Rattle.std.proofs.Common.{◌≡◌, ℕ, false, List, [], ◌∷◌, Option, Some, codes, refl}
use Rattle.serde_json.specs.Data.{string}
use Rattle.serde_json.specs.Written.{has_float}
use Rattle.script_checks.specs.declared.checking.BadLine.{BadLine}
use Rattle.json_views.specs.Exact.{ValuesAreExact}
use Rattle.json_views.specs.Objects.{optional_value, text_value}
use Rattle.check_commands.specs.Json.{bad_line_value, message_value, place_members}
use Rattle.check_commands.specs.Mistakes.{expected_text, found_text}

pub bad_line_exact : ValuesAreExact → (path : List ℕ) (bad : BadLine) → has_float (bad_line_value path bad) ≡ false
bad_line_exact exact path bad = exact.objects (
    (codes "kind", string (codes "error"))
    ∷ (codes "path", string path)
    ∷ (codes "line", optional_value (Some bad.number))
    ∷ (codes "column", optional_value (Some bad.mistake.column))
    ∷ (codes "expected", text_value (expected_text bad.mistake.expected))
    ∷ (codes "found", text_value (found_text bad.mistake.found))
    ∷ []) (
      refl,
      (
        refl,
        (
          refl,
          (
            refl,
            (exact.texts (expected_text bad.mistake.expected), (exact.texts (found_text bad.mistake.found), tt)),
          ),
        ),
      ),
    )

pub message_exact : ValuesAreExact → (kind path : List ℕ) (line column : Option ℕ) (message : List ℕ)
    → has_float (message_value (place_members kind path line column) (string message)) ≡ false
message_exact exact kind path line column message = exact.objects (
    (codes "kind", string kind)
    ∷ (codes "path", string path)
    ∷ (codes "line", optional_value line)
    ∷ (codes "column", optional_value column)
    ∷ (codes "message", string message)
    ∷ [])
    (refl, (refl, (exact.numbers line, (exact.numbers column, (refl, tt)))))

pub words_exact : ValuesAreExact → (kind path : List ℕ) (line column : Option ℕ) (message : List ℕ)
    → has_float (message_value (place_members kind path line column) (text_value message)) ≡ false
words_exact exact kind path line column message = exact.objects (
    (codes "kind", string kind)
    ∷ (codes "path", string path)
    ∷ (codes "line", optional_value line)
    ∷ (codes "column", optional_value column)
    ∷ (codes "message", text_value message)
    ∷ [])
    (refl, (refl, (exact.numbers line, (exact.numbers column, (exact.texts message, tt)))))
