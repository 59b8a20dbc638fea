use Rattle.std.proofs.Common.{◌≡◌, ◌+◌, ◌<◌, ◌≤◌, length, ◌++◌, List, arith, sym, ◌∙◌, ap, subst, length-append}
use Rattle.std.proofs.lemmas.Bool.{eqb-true, eqb-false}
use Rattle.swift_lex.specs.declared.token.Token.{Token}
use Rattle.swift_ast.specs.declared.piece.Piece.{Piece}
use Rattle.parse_base.specs.declared.stop.Stop.{Stop}
use Rattle.swift_parse.specs.File.{StopsPiece, BadFrom}
use Rattle.swift_parse.proofs.Files.{Going, going_on, going_stops, going_ends}
use Rattle.swift_parse.proofs.file.pieces.Goals as goal

pub returns-then-is_empty : goal.returns-then-is_empty
returns-then-is_empty c =
    going_ends c.args.tokens.now c.loop-turn.before c.loop-turn.rest.now c.loop-turn.found c.loop-turn.invariant.going (eqb-true (length c.loop-turn.rest.now) 0 (sym c.is_empty.ensures ∙ c.if-is_empty.true))

pub returns-in-Err-Refused : goal.returns-in-Err-Refused
returns-in-Err-Refused c =
    let piece = c.first_piece.result.0.now in
    let behind = c.first_piece.result.1.now in
    let not_empty = eqb-false (length c.loop-turn.rest.now) 0 (sym c.is_empty.ensures ∙ c.if-is_empty.false) in
    let some : 0 < length c.loop-turn.rest.now = omega (arith, not_empty) in
    let never = subst (λ (v : Stop). StopsPiece (c.loop-turn.before + length piece) piece v) c.in-Err-Refused.field-0-is c.in-Err-Refused.ensures in
    subst (λ n. BadFrom 0 c.args.tokens.now n) (sym c.line_of.ensures)
    (going_stops c.args.tokens.now c.loop-turn.before c.loop-turn.rest.now c.loop-turn.found piece behind c.loop-turn.invariant.going
    c.first_piece.ensures.whole c.first_piece.ensures.first c.first_piece.ensures.behind (c.first_piece.ensures.some some) never)

pub loop-turn-preserved : goal.loop-turn-preserved
loop-turn-preserved c =
    let piece = c.first_piece.result.0.now in
    let behind = c.first_piece.result.1.now in
    let not_empty = eqb-false (length c.loop-turn.rest.now) 0 (sym c.is_empty.ensures ∙ c.if-is_empty.false) in
    let some : 0 < length c.loop-turn.rest.now = omega (arith, not_empty) in
    let first = c.first_piece.ensures.some some in
    let sizes = ap (λ (v : List Token). length v) c.first_piece.ensures.whole in
    let both = length-append piece behind in
    let kept = c.loop-turn.invariant.left in
    record {
      going = subst (λ (v : List Piece). Going c.args.tokens.now (c.loop-turn.before + length piece) behind v) (sym c.in_ok-push-in-Ok.ensures.ok)
          (going_on c.args.tokens.now c.loop-turn.before c.loop-turn.rest.now c.loop-turn.found piece behind c.in-Ok.tree c.loop-turn.invariant.going
          c.first_piece.ensures.whole c.first_piece.ensures.first c.first_piece.ensures.behind first c.in-Ok.ensures);
      left = omega (arith, sizes, both, kept, first);
    }

pub returns : goal.returns
returns c =
    let kept = c.loop-turn.invariant.left in
    let done = c.loop-turn-test.false in
    going_ends c.args.tokens.now c.loop-turn.before c.loop-turn.rest.now c.loop-turn.found c.loop-turn.invariant.going (omega (arith, kept, done))
