use Rattle.std.proofs.Common.{◌≡◌, ◌≤◌, List, ℕ, length, min, take, true, nat_le, ap, sym, ◌∙◌, subst, arith}
use Rattle.std.proofs.lemmas.List.{length-take, take_all}
use Rattle.posix_terms.specs.Outcomes.{fits}
use Rattle.posix_terms.specs.declared.outcome.OutKind.{OutKind}
use Rattle.posix_terms.specs.declared.outcome.OutKind.TheVariants as out
use Rattle.posix_terms.specs.declared.outcome.Outcome.{Outcome}
use Rattle.posix_terms.specs.declared.outcome.Outcome.TheVariants as outcome
use Rattle.posix_terms.specs.declared.reply.Reply.{Reply}
use Rattle.posix_terms.specs.declared.reply.Reply.TheVariants as reply
use Rattle.sequential_object.specs.Bytes.{bytes_of_kind, reply_bytes}
use Rattle.call_turns.specs.Patience.{told_outside}
use Rattle.call_turns.proofs.Outside.{offset_fits, read_fits, succeeds, told_done}
use Rattle.call_turns.proofs.patience.end_outside.Goals as goal
use Rattle.call_turns.proofs.patience.end_outside.Goals.{in-Read, in-Write, in-Seek, in_default}

within : (bytes : List ℕ) (asked room : ℕ) → length bytes ≤ asked → asked ≤ room → take room bytes ≡ bytes
within bytes asked room fit enough = take_all room bytes (omega arith)

shorter : (room : ℕ) (bytes : List ℕ) → length (take room bytes) ≤ room
shorter room bytes =
    let least : length (take room bytes) ≡ min room (length bytes) = length-take room bytes in
    omega arith

pub returns-clause-ends : goal.returns-clause-ends
returns-clause-ends c fit enough = succeeds c.args.patience c.args.carried c.args.errand c.args.outcome.now
    c.in-Ok.value c.in-Ok.bytes c.match-errand.result c.in-Ok.is told
  where
    of_kind : (k : OutKind) → c.args.errand.kind ≡ k
        → told_outside k c.in-Ok.value c.in-Ok.bytes ≡ told_outside c.args.errand.kind c.in-Ok.value c.in-Ok.bytes
    of_kind k is = ap (λ (x : OutKind). told_outside x c.in-Ok.value c.in-Ok.bytes) (sym is)

    of_fit : (k : OutKind) → c.args.errand.kind ≡ k
        → fits k c.args.errand.asked (outcome.Ok c.in-Ok.value c.in-Ok.bytes) ≡ true
    of_fit k is =
        let fit_kind : fits k c.args.errand.asked c.args.outcome.now ≡ true =
        subst (λ (x : OutKind). fits x c.args.errand.asked c.args.outcome.now ≡ true) is fit in
        subst (λ (o : Outcome). fits k c.args.errand.asked o ≡ true) c.in-Ok.is fit_kind

    seeks : c.args.errand.kind ≡ out.Seek → nat_le c.in-Ok.value 9223372036854775807 ≡ true
    seeks is = offset_fits c.args.errand.asked c.in-Ok.value c.in-Ok.bytes (of_fit out.Seek is)

    -- all bytes of a read are in the room
    whole : c.args.errand.kind ≡ out.Read → take (length c.args.room.now.items) c.in-Ok.bytes ≡ c.in-Ok.bytes
    whole is =
        let asked : c.args.errand.asked ≤ length c.args.room.now.items =
        subst (λ (k : OutKind). bytes_of_kind k c.args.errand.asked ≤ length c.args.room.now.items) is enough in
        within c.in-Ok.bytes c.args.errand.asked (length c.args.room.now.items)
        (read_fits c.args.errand.asked c.in-Ok.value c.in-Ok.bytes (of_fit out.Read is)) asked

    told : c.match-errand.result ≡ told_outside c.args.errand.kind c.in-Ok.value c.in-Ok.bytes
    told =
        elim c.match-errand.branch [
          | in-Read w ↦ w.result-is ∙ ap (λ (l : List ℕ). reply.Data l) (w.filled.ensures
              ∙ ap (take (length c.args.room.now.items)) w.as_slice.ensures ∙ whole w.in-Read.is)
              ∙ of_kind out.Read w.in-Read.is
          | in-Write w ↦ w.result-is ∙ of_kind out.Write w.in-Write.is
          | in-Seek w ↦ w.result-is ∙ w.seek_reply.ensures.number (seeks w.in-Seek.is) ∙ of_kind out.Seek w.in-Seek.is
          | in_default w ↦ w.result-is ∙ told_done c.args.errand.kind c.in-Ok.value c.in-Ok.bytes w.in_default.not-Read
              w.in_default.not-Write w.in_default.not-Seek
        ]

-- what is in the room is no more than there was room for
pub returns-clause-few : goal.returns-clause-few
returns-clause-few c =
    elim c.match-errand.branch [
      | in-Read w ↦ brings c.match-errand.result (reply.Data w.filled.result) w.result-is
          (subst (λ (l : List ℕ). length l ≤ length c.args.room.now.items) (sym w.filled.ensures)
          (shorter (length c.args.room.now.items) w.as_slice.result.now))
      | in-Write w ↦ brings c.match-errand.result (reply.Count c.in-Ok.value) w.result-is (omega arith)
      | in-Seek w ↦ subst (λ (r : Reply). reply_bytes r ≤ length c.args.room.now.items) (sym w.result-is)
          (subst (λ (n : ℕ). n ≤ length c.args.room.now.items) (sym w.seek_reply.ensures.few) (omega arith))
      | in_default w ↦ brings c.match-errand.result reply.Done w.result-is (omega arith)
    ]
  where
    brings : (r s : Reply) → r ≡ s → reply_bytes s ≤ length c.args.room.now.items
        → reply_bytes r ≤ length c.args.room.now.items
    brings r s is few = subst (λ (x : Reply). reply_bytes x ≤ length c.args.room.now.items) (sym is) few
