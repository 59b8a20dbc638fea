-- Expressions: each form is right where the forms inside are.
use Rattle.std.specs.Prelude.{◌≡◌, ℕ, Bool, true, false, List, [], ◌∷◌, ◌++◌, map, Option, Some, None, ⊤, IfSome}
use Rattle.std.proofs.Common.{sym, ap, subst}
use Rattle.sv_value.specs.declared.value.Value.{Value}
use Rattle.sv_value.specs.declared.value.Value.TheVariants as whole
use Rattle.swift_core.specs.Context.{Local, HasMember}
use Rattle.swift_core.specs.Mentions.{joined, core_mentions}
use Rattle.swift_core.specs.Types.{inside_at}
use Rattle.swift_core.specs.Typing.{Has, AllHave, ArePieces, IsPiece, PieceForm, FitsSignature}
use Rattle.swift_core.specs.Values.{AllHaveValue}
use Rattle.swift_core.specs.declared.ids.CodeId.{CodeId}
use Rattle.swift_core.specs.declared.table.Signature.{Signature}
use Rattle.swift_core.specs.declared.table.SignatureForm.TheVariants as form
use Rattle.swift_core.specs.declared.term.Binary.{Binary}
use Rattle.swift_core.specs.declared.term.Core.{Core, out-Core}
use Rattle.swift_core.specs.declared.term.Piece.{Piece, out-Piece}
use Rattle.swift_core.specs.declared.term.Unary.{Unary}
use Rattle.swift_core.specs.declared.ty.Ty.{Ty, out-Ty}
use Rattle.swift_core.specs.declared.ty.Ty.TheVariants as ty
use Rattle.swift_core.specs.declared.ty.Ty.TheViews as ty_view
use Rattle.swift_core.specs.Operators.{is_printed}
use Rattle.value_calls.specs.Made.{made}
use Rattle.value_calls.specs.Calls as call
use Rattle.core_means.specs.Asks.{Doing, ◌>>=◌, give, given, answered, choose}
use Rattle.core_means.specs.Means.{Inside, truth, inside, of_one, of_two, values_from, list_of, piece_at, piece_of, pieces_from, text_of, one_operand, tested, both, either, opened, or_else, coalesced, unless_nil, coalesced_optional, operands, choice, initial}
use Rattle.value_fits.specs.Answers.{AnswersWith}
use Rattle.value_fits.specs.Operators.{IsPrintable}
use Rattle.world_fits.specs.Codes.{member_of}
use Rattle.world_fits.specs.Laws.{Known}
use Rattle.world_fits.specs.Lists.{Each, each_front, each_back, each_pushed, each_all}
use Rattle.world_fits.specs.Right.{GivesSome}
use Rattle.world_fits.specs.Sites.{Site, Scope, context, ValueHas, Allowed}
use Rattle.form_rights.specs.Callees.{static_of}
use Rattle.form_rights.specs.Calls.{constant_good}
use Rattle.form_rights.specs.Good.{Good, good_then, good_give, good_answered, good_given, good_choose, good_weaker}
use Rattle.form_rights.specs.Inside.{MayDo, Rights}
use Rattle.form_rights.specs.Mentions.{piece_mentions, piece_layer, piece_is}

text_shows : is_printed (out-Ty ty.Text) ≡ true
text_shows = ap is_printed ty_view.outs-Text

module _ (site : Site) (known : Known site) (i : Inside) (r : Rights site i) (sc : Scope) (locals : List Local) where
  -- a term of the type that does nothing that it may not do
  abbrev pub Term : Core → Ty → Type 0
  Term e t = Has (context site sc) locals (out-Core e) t × MayDo site sc (core_mentions e)

  abbrev pub Fine : {A : Type 0} → (A → Type 0) → Doing A → Type 0
  Fine P m = Good site sc locals P m

  abbrev pub Typed : Ty → Value → Type 0
  Typed = ValueHas site

  eval_good : (e : Core) (t : Ty) → Term e t → Fine (Typed t) (i.eval e)
  eval_good e t h = r.eval sc locals e t h.0 h.1

  -- ---- lists and strings

  all_pushed : (t : Ty) (vs : List Value) (v : Value) → AllHaveValue site.program.table t vs → Typed t v → AllHaveValue site.program.table t (vs ++ v ∷ [])
  all_pushed t vs v (AllHaveValue.no_values u) k = AllHaveValue.more_values k (AllHaveValue.no_values t)
  all_pushed t vs v (AllHaveValue.more_values {v = x} {vs = xs} h more) k = AllHaveValue.more_values h (all_pushed t xs v more k)

  elements_good : (es : List Core) (t : Ty) (so_far : List Value) → AllHaveValue site.program.table t so_far → AllHave (context site sc) locals es t → MayDo site sc (joined (map core_mentions es))
      → Fine (AllHaveValue site.program.table t) (values_from i so_far es)
  unfolding values_from
  elements_good es t so_far h (AllHave.no_terms u) may = good_give site sc locals _ so_far h
  elements_good es t so_far h (AllHave.more_terms {c = c} {cs = cs} typed more) may =
      good_then site sc locals _ (i.eval c) (λ v. values_from i (so_far ++ v ∷ []) cs) (eval_good c t (typed, each_front (Allowed site sc) (core_mentions c) (joined (map core_mentions cs)) may))
      (λ v k. elements_good cs t (so_far ++ v ∷ []) (all_pushed t so_far v h k) more (each_back (Allowed site sc) (core_mentions c) (joined (map core_mentions cs)) may))

  pub list_good : (es : List Core) (t : Ty) → AllHave (context site sc) locals es t → MayDo site sc (joined (map core_mentions es)) → Fine (Typed (ty.List t)) (list_of i es)
  unfolding list_of
  list_good es t h may =
      good_then site sc locals _ (values_from i [] es) (λ vs. answered (made (whole.List vs))) (elements_good es t [] (AllHaveValue.no_values t) h may)
      (λ vs k. good_answered site sc locals _ (made (whole.List vs)) (known.laws.list_made site.program.table t vs k))

  piece_good : (layer : PieceForm) → IsPiece (context site sc) locals layer → MayDo site sc (piece_layer layer) → Fine (IsPrintable site.program.table) (piece_at i layer)
  piece_good layer (IsPiece.plain {w = w}) may = good_give site sc locals _ (whole.Str w) (IsPrintable.is_printable ty.Text text_shows ((known.laws.plain site.program.table).texts w))
  piece_good layer (IsPiece.hole {c = c} {t = t} h shows) may = good_weaker site sc locals (i.eval c) (eval_good c t (h, may)) (λ v k. IsPrintable.is_printable t shows k)

  pieces_good : (ps : List Piece) (so_far : List Value) → Each (IsPrintable site.program.table) so_far → ArePieces (context site sc) locals ps → MayDo site sc (joined (map piece_mentions ps))
      → Fine (Each (IsPrintable site.program.table)) (pieces_from i so_far ps)
  unfolding pieces_from piece_of
  pieces_good ps so_far h (ArePieces.no_pieces) may = good_give site sc locals _ so_far h
  pieces_good ps so_far h (ArePieces.more_pieces {p = p} {ps = rest} typed more) may =
      good_then site sc locals _ (piece_at i (out-Piece p)) (λ v. pieces_from i (so_far ++ v ∷ []) rest)
      (piece_good (out-Piece p) typed (subst (MayDo site sc) (piece_is p) (each_front (Allowed site sc) (piece_mentions p) (joined (map piece_mentions rest)) may)))
      (λ v k. pieces_good rest (so_far ++ v ∷ []) (each_pushed (IsPrintable site.program.table) so_far v h k) more (each_back (Allowed site sc) (piece_mentions p) (joined (map piece_mentions rest)) may))

  pub text_good : (ps : List Piece) → ArePieces (context site sc) locals ps → MayDo site sc (joined (map piece_mentions ps)) → Fine (Typed ty.Text) (text_of i ps)
  unfolding text_of
  text_good ps h may =
      good_then site sc locals _ (pieces_from i [] ps) (λ vs. answered (call.interpolated vs)) (pieces_good ps [] tt h may)
      (λ vs k. good_answered site sc locals _ (call.interpolated vs) (known.laws.interpolated site.program.table vs (each_all (IsPrintable site.program.table) vs k)))

  -- ---- operators

  pub operand_good : (o : Unary) (e : Core) (t u : Ty) → Term e t → ((v : Value) → Typed t v → AnswersWith (Typed u) (of_one o v)) → Fine (Typed u) (one_operand i o e)
  unfolding one_operand
  operand_good o e t u h k = good_then site sc locals _ (i.eval e) (λ v. answered (of_one o v)) (eval_good e t h) (λ v x. good_answered site sc locals _ (of_one o v) (k v x))

  pub operands_good : (o : Binary) (a b : Core) (t u w : Ty) → Term a t → Term b u → ((x y : Value) → Typed t x → Typed u y → AnswersWith (Typed w) (of_two o x y)) → Fine (Typed w) (operands i o a b)
  unfolding operands
  operands_good o a b t u w h k l =
      good_then site sc locals _ (i.eval a) (λ x. i.eval b >>= λ y. answered (of_two o x y)) (eval_good a t h)
      (λ x p. good_then site sc locals _ (i.eval b) (λ y. answered (of_two o x y)) (eval_good b u k) (λ y q. good_answered site sc locals _ (of_two o x y) (l x y p q)))

  bool_good : (b : Bool) → Fine (Typed ty.Bool) (give (whole.Bool b))
  bool_good b = good_give site sc locals _ (whole.Bool b) ((known.laws.plain site.program.table).truths b)

  pub tested_good : (e : Core) → Term e ty.Bool → Fine (λ (b : Bool). ⊤) (tested i e)
  unfolding tested
  tested_good e h =
      good_then site sc locals _ (i.eval e) (λ v. given (truth v)) (eval_good e ty.Bool h)
      (λ v k. let b = known.laws.truths site.program.table v k in good_given site sc locals _ (truth v) (subst (GivesSome site (λ (x : Bool). ⊤)) (sym b.1) tt))

  pub both_good : (a b : Core) → Term a ty.Bool → Term b ty.Bool → Fine (Typed ty.Bool) (both i a b)
  unfolding both
  both_good a b h k =
      good_then site sc locals _ (tested i a) (λ t. choose t (tested i b >>= λ u. give (whole.Bool u)) (give (whole.Bool false))) (tested_good a h)
      (λ t x. good_choose site sc locals _ t (tested i b >>= λ u. give (whole.Bool u)) (give (whole.Bool false))
      (good_then site sc locals _ (tested i b) (λ u. give (whole.Bool u)) (tested_good b k) (λ u y. bool_good u)) (bool_good false))

  pub either_good : (a b : Core) → Term a ty.Bool → Term b ty.Bool → Fine (Typed ty.Bool) (either i a b)
  unfolding either
  either_good a b h k =
      good_then site sc locals _ (tested i a) (λ t. choose t (give (whole.Bool true)) (tested i b >>= λ u. give (whole.Bool u))) (tested_good a h)
      (λ t x. good_choose site sc locals _ t (give (whole.Bool true)) (tested i b >>= λ u. give (whole.Bool u)) (bool_good true)
      (good_then site sc locals _ (tested i b) (λ u. give (whole.Bool u)) (tested_good b k) (λ u y. bool_good u)))

  pub opened_good : (e : Core) (o t : Ty) → inside_at (out-Ty o) ≡ Some t → Term e o → Fine (λ (x : Option Value). IfSome x (Typed t)) (opened i e)
  unfolding opened
  opened_good e o t is h =
      good_then site sc locals _ (i.eval e) (λ v. given (inside v)) (eval_good e o h)
      (λ v k. let x = known.laws.optionals site.program.table o t v is k in
      good_given site sc locals _ (inside v) (subst (GivesSome site (λ (y : Option Value). IfSome y (Typed t))) (sym x.1) x.2))

  or_else_good : (x : Option Value) (b : Core) (t : Ty) → IfSome x (Typed t) → Term b t → Fine (Typed t) (or_else i x b)
  or_else_good None b t h k = eval_good b t k
  or_else_good (Some v) b t h k = good_give site sc locals _ v h

  pub coalesced_good : (a b : Core) (o t : Ty) → inside_at (out-Ty o) ≡ Some t → Term a o → Term b t → Fine (Typed t) (coalesced i a b)
  unfolding coalesced
  coalesced_good a b o t is h k = good_then site sc locals _ (opened i a) (λ x. or_else i x b) (opened_good a o t is h) (λ x e. or_else_good x b t e k)

  unless_nil_good : (x : Option Value) (b : Core) (o t : Ty) → inside_at (out-Ty o) ≡ Some t → IfSome x (Typed t) → Term b o → Fine (Typed o) (unless_nil i x b)
  unless_nil_good None b o t is h k = eval_good b o k
  unless_nil_good (Some v) b o t is h k = good_give site sc locals _ (whole.Opt (Some v)) ((known.laws.plain site.program.table).filled o t v is h)

  pub coalesced_optional_good : (a b : Core) (o t : Ty) → inside_at (out-Ty o) ≡ Some t → Term a o → Term b o → Fine (Typed o) (coalesced_optional i a b)
  unfolding coalesced_optional
  coalesced_optional_good a b o t is h k = good_then site sc locals _ (opened i a) (λ x. unless_nil i x b) (opened_good a o t is h) (λ x e. unless_nil_good x b o t is e k)

  pub choice_good : (c a b : Core) (t : Ty) → Term c ty.Bool → Term a t → Term b t → Fine (Typed t) (choice i c a b)
  unfolding choice
  choice_good c a b t h k l =
      good_then site sc locals _ (tested i c) (λ t. choose t (i.eval a) (i.eval b)) (tested_good c h)
      (λ x e. good_choose site sc locals _ x (i.eval a) (i.eval b) (eval_good a t k) (eval_good b t l))

  -- ---- static properties

  pub static_good : (id : CodeId) (d : ℕ) (s : Signature) (t : Ty) → HasMember site.program.table d s → s.code ≡ id → s.form ≡ form.Static (Some t) → Fine (Typed t) (initial i id.number)
  static_good id d s t has code is =
      let m = member_of site.program.table site.program.members known.program d s has in
      subst (λ (x : CodeId). Good site sc locals (Typed t) (initial i x.number)) code
      (constant_good site i r known sc locals d s.code.number m.declaration.kind m.member t
      (static_of site.program.table d m.declaration.kind m.member t (subst (FitsSignature site.program.table d m.declaration.kind m.member) is m.fits)) m.there)
