-- A scan over the parameters of a closure.
use Rattle.std.proofs.Common.{◌≡◌, ℕ, ◌<◌, ◌≤◌, Bool, false, true, ◌&&◌, ◌||◌, List, [], ◌∷◌, length, refl, codes, arith}
use Rattle.std.specs.Prelude.{is_some}
use Rattle.swift_lex.specs.declared.token.Token.{Token}
use Rattle.parse_base.specs.Tokens.{is_sign, is_reserved}
use Rattle.parse_base.specs.Parser.{starts}
use Rattle.parse_base.proofs.Seen.{and_false}
use Rattle.parse_base.proofs.Laws.{or_left}
use Rattle.parse_terms.specs.Words.{param_by}
use Rattle.parse_expr.specs.Tests.{params_from, starts_in}

pub no_param : (t : Token) (ts : List Token) → is_some (param_by t.kind) ≡ false → params_from false (t ∷ ts) ≡ false
unfolding params_from starts
no_param t ts e = rw e refl

or_false : (a b : Bool) → b ≡ false → (a || b) ≡ a
or_false true b e = refl
or_false false b e = e

pub no_comma : (t : Token) (ts : List Token) → is_sign (codes ",") t ≡ false → params_from true (t ∷ ts) ≡ is_reserved (codes "in") t
unfolding params_from
no_comma t ts e = or_false _ _ (rw e refl)

pub in_found : (ts : List Token) → starts_in ts ≡ true → params_from true ts ≡ true
unfolding params_from
in_found [] e = absurd cc
in_found (t ∷ ts) e = or_left _ _ e

pub no_tokens : (ts : List Token) → length ts ≤ 0 → params_from false ts ≡ false
unfolding params_from
no_tokens [] le = refl
no_tokens (t ∷ ts) le = absurd (omega arith)
