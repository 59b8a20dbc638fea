use Rattle.std.proofs.Common.{rules, ◌≡◌, [], chars, string_bytes, ap, sym, ◌∙◌}
use Rattle.std.specs.Prelude.{map, ◌==◌, ◌&&◌, true, false}
use Rattle.std.specs.Str.Iter.{chars_rest}
use Rattle.std.proofs.lemmas.Str.{IsUtf8-past_char, chars_past_char, chars-nil}
use Rattle.std.proofs.lemmas.List.{map-append, nil_from_length}
use Rattle.text_layout.specs.Paragraphs.{begins_with_feed, cleaned}
use Rattle.text_layout.proofs.ParagraphLemmas.{put_nothing, feed_step, dropped_step, kept_step, end_step}
use Rattle.text_layout.proofs.breaking.paragraphs.Goals as goal

pub loop-c-init : goal.loop-c-init
loop-c-init c = record {
  text = search rules;
  told = rw (c.new-done.ensures.items, c.new-current.ensures.bytes, c.chars-rest.ensures.rest) (put_nothing (cleaned (chars c.args.text.now)));
}

pub loop-c-preserved-in-Continue-1 : goal.loop-c-preserved-in-Continue-1
loop-c-preserved-in-Continue-1 c =
    let held = c.loop-c.invariant in
    let parts = c.in-Some.ensures.steps.0 in
    let next = feed_step (map string_bytes c.loop-c.done.items) (string_bytes c.loop-c.current) (chars (chars_rest c.next.new.self)) _ c.in-Some.c _ (chars_past_char _ _ c.in-Some.c held.text parts) c.if-c-eq10.true held.told in
    record {
      text = IsUtf8-past_char _ _ c.in-Some.c held.text parts;
      told = rw (c.in_ok-push.ensures.items, map-append, c.replace.ensures.value, c.replace.ensures.after, c.new.ensures.bytes) next;
    }

pub loop-c-preserved-in-Continue-branch-2 : goal.loop-c-preserved-in-Continue-branch-2
loop-c-preserved-in-Continue-branch-2 c =
    let held = c.loop-c.invariant in
    let parts = c.in-Some.ensures.steps.0 in
    let stays : (c.in-Some.c == 13 && begins_with_feed (chars (chars_rest c.next.new.self))) ≡ false = ap (λ zs. c.in-Some.c == 13 && begins_with_feed (chars zs)) (sym c.as_str.ensures) ∙ sym c.if-not-is_dropped.ensures in
    let kept = kept_step (map string_bytes c.loop-c.done.items) (string_bytes c.loop-c.current) (chars (chars_rest c.next.new.self)) _ c.in-Some.c _ (chars_past_char _ _ c.in-Some.c held.text parts) c.if-c-eq10.false stays held.told in
    record {
      text = IsUtf8-past_char _ _ c.in-Some.c held.text parts;
      told = rw (c.in_ok-push-2.ensures.bytes, c.printable.ensures) kept;
    }

pub loop-c-preserved : goal.loop-c-preserved
loop-c-preserved c =
    let held = c.loop-c.invariant in
    let parts = c.in-Some.ensures.steps.0 in
    let goes : (c.in-Some.c == 13 && begins_with_feed (chars (chars_rest c.next.new.self))) ≡ true = ap (λ zs. c.in-Some.c == 13 && begins_with_feed (chars zs)) (sym c.as_str.ensures) ∙ sym c.if-not-is_dropped.ensures in
    record {
      text = IsUtf8-past_char _ _ c.in-Some.c held.text parts;
      told = dropped_step (map string_bytes c.loop-c.done.items) (string_bytes c.loop-c.current) (chars (chars_rest c.next.new.self)) _ c.in-Some.c _ (chars_past_char _ _ c.in-Some.c held.text parts) goes held.told;
    }

pub returns : goal.returns
returns c =
    let held = c.loop-c.invariant in
    let over : chars (chars_rest c.loop-c.rest) ≡ [] = ap chars (nil_from_length (chars_rest c.loop-c.rest) c.in_default.ensures.steps.0.0) ∙ chars-nil in
    rw (c.in_ok-push-3.ensures.items, map-append) (end_step (map string_bytes c.loop-c.done.items) (string_bytes c.loop-c.current) (chars (chars_rest c.loop-c.rest)) _ over held.told)
