use Rattle.std.proofs.Common.{◌≡◌, ◌++◌, [], chars, string_bytes, encode_utf8_all, ap, sym, ◌∙◌}
use Rattle.std.specs.Prelude.{map, ◌==◌, ◌&&◌, true, false}
use Rattle.std.specs.Str.Iter.{chars_rest}
use Rattle.std.proofs.lemmas.Str.{IsUtf8-past_char, chars_past_char, chars-nil}
use Rattle.std.proofs.lemmas.List.{append-nil, nil_from_length}
use Rattle.text_layout.specs.Paragraphs.{printable, begins_with_feed, cleaned}
use Rattle.text_layout.proofs.ParagraphLemmas.{name_kept, name_dropped}
use Rattle.text_layout.proofs.breaking.push_name.Goals as goal

pub loop-c-preserved : goal.loop-c-preserved
loop-c-preserved c =
    let held = c.loop-c.invariant in
    let parts = c.in-Some.ensures.steps.0 in
    let stays : (c.in-Some.c == 13 && begins_with_feed (chars (chars_rest c.next.new.self))) ≡ false = ap (λ zs. c.in-Some.c == 13 && begins_with_feed (chars zs)) (sym c.as_str.ensures) ∙ sym c.if-is_dropped.ensures in
    record {
      text = IsUtf8-past_char _ _ c.in-Some.c held.text parts;
      told = rw (c.in_ok-push.ensures.bytes, c.printable.ensures) (name_kept (string_bytes c.loop-c.out) (chars (chars_rest c.next.new.self)) _ c.in-Some.c _ (chars_past_char _ _ c.in-Some.c held.text parts) stays held.told);
    }

pub loop-c-preserved-then-is_dropped : goal.loop-c-preserved-then-is_dropped
loop-c-preserved-then-is_dropped c =
    let held = c.loop-c.invariant in
    let parts = c.in-Some.ensures.steps.0 in
    let goes : (c.in-Some.c == 13 && begins_with_feed (chars (chars_rest c.next.new.self))) ≡ true = ap (λ zs. c.in-Some.c == 13 && begins_with_feed (chars zs)) (sym c.as_str.ensures) ∙ sym c.if-is_dropped.ensures in
    record {
      text = IsUtf8-past_char _ _ c.in-Some.c held.text parts;
      told = name_dropped (string_bytes c.loop-c.out) (chars (chars_rest c.next.new.self)) _ c.in-Some.c _ (chars_past_char _ _ c.in-Some.c held.text parts) goes held.told;
    }

pub returns : goal.returns
returns c =
    let over : chars (chars_rest c.loop-c.rest) ≡ [] = ap chars (nil_from_length (chars_rest c.loop-c.rest) c.in_default.ensures.steps.0.0) ∙ chars-nil in
    sym (append-nil (string_bytes c.loop-c.out)) ∙ ap (λ cs. string_bytes c.loop-c.out ++ encode_utf8_all (map printable (cleaned cs))) (sym over) ∙ c.loop-c.invariant.told
