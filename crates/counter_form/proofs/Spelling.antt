-- A program is spelled by its pieces, one after another.
use Rattle.std.proofs.Common.{◌≡◌, ℕ, true, List, ◌++◌, refl, sym, ◌∙◌, ap}
use Rattle.view_engine.specs.Counter.{Shape}
use Rattle.counter_form.specs.App.{SpellsApp, is_ending}
use Rattle.counter_form.specs.Pieces.{word_of, value, Cut}
use Rattle.counter_form.specs.declared.pieces.Piece.TheVariants.{AppLine, ViewLine, BeforeInit, AfterInit, BeforePrefix, BeforeLabel, BeforeStep, AfterStep, LastLine}
use Rattle.counter_form.proofs.Cutting.{same_cut}

module _ {bytes : List ℕ} {shape : Shape} (s : SpellsApp bytes shape) where
  abbrev pub rest9 : List ℕ
  rest9 = s.ending

  abbrev pub rest8 : List ℕ
  rest8 = s.spaces5 ++ (word_of LastLine ++ rest9)

  abbrev pub rest7 : List ℕ
  rest7 = s.step ++ (word_of AfterStep ++ rest8)

  abbrev pub rest6 : List ℕ
  rest6 = shape.label ++ (word_of BeforeStep ++ rest7)

  abbrev pub rest5 : List ℕ
  rest5 = shape.prefix ++ (word_of BeforeLabel ++ rest6)

  abbrev pub rest4 : List ℕ
  rest4 = s.spaces4 ++ (word_of BeforePrefix ++ rest5)

  abbrev pub rest3 : List ℕ
  rest3 = s.init ++ (word_of AfterInit ++ rest4)

  abbrev pub rest2 : List ℕ
  rest2 = s.spaces3 ++ (word_of BeforeInit ++ rest3)

  abbrev pub rest1 : List ℕ
  rest1 = s.spaces2 ++ (word_of ViewLine ++ rest2)

  pub cut1 : Cut AppLine bytes s.spaces1 rest1
  cut1 = record { kind = s.blank1; whole = s.whole }

  pub cut2 : Cut ViewLine rest1 s.spaces2 rest2
  cut2 = record { kind = s.blank2; whole = refl }

  pub cut3 : Cut BeforeInit rest2 s.spaces3 rest3
  cut3 = record { kind = s.blank3; whole = refl }

  pub cut4 : Cut AfterInit rest3 s.init rest4
  cut4 = record { kind = s.init_digits; whole = refl }

  pub cut5 : Cut BeforePrefix rest4 s.spaces4 rest5
  cut5 = record { kind = s.blank4; whole = refl }

  pub cut6 : Cut BeforeLabel rest5 shape.prefix rest6
  cut6 = record { kind = s.prefix_text; whole = refl }

  pub cut7 : Cut BeforeStep rest6 shape.label rest7
  cut7 = record { kind = s.label_text; whole = refl }

  pub cut8 : Cut AfterStep rest7 s.step rest8
  cut8 = record { kind = s.step_digits; whole = refl }

  pub cut9 : Cut LastLine rest8 s.spaces5 rest9
  cut9 = record { kind = s.blank5; whole = refl }

-- one program alone is spelled by these bytes
pub same_app : {bytes : List ℕ} {shape shape' : Shape} → SpellsApp bytes shape → SpellsApp bytes shape' → shape ≡ shape'
same_app {bytes} {shape} {shape'} s s' =
    let e1 = same_cut refl (cut1 s) (cut1 s') in
    let e2 = same_cut e1.1 (cut2 s) (cut2 s') in
    let e3 = same_cut e2.1 (cut3 s) (cut3 s') in
    let e4 = same_cut e3.1 (cut4 s) (cut4 s') in
    let e5 = same_cut e4.1 (cut5 s) (cut5 s') in
    let e6 = same_cut e5.1 (cut6 s) (cut6 s') in
    let e7 = same_cut e6.1 (cut7 s) (cut7 s') in
    let e8 = same_cut e7.1 (cut8 s) (cut8 s') in
    let init_is : shape.init ≡ shape'.init = s.init_value ∙ ap value e4.0 ∙ sym s'.init_value in
    let step_is : shape.step ≡ shape'.step = s.step_value ∙ ap value e8.0 ∙ sym s'.step_value in
    λ i. record { init = init_is i; step = step_is i; prefix = e6.0 i; label = e7.0 i }

-- nine cuts, one behind another, spell a program
module _ (bytes s1 r1 s2 r2 s3 r3 init r4 s4 r5 prefix r6 label r7 step r8 s5 ending : List ℕ) where
  pub spelt : Cut AppLine bytes s1 r1 → Cut ViewLine r1 s2 r2 → Cut BeforeInit r2 s3 r3 → Cut AfterInit r3 init r4 → Cut BeforePrefix r4 s4 r5
      → Cut BeforeLabel r5 prefix r6 → Cut BeforeStep r6 label r7 → Cut AfterStep r7 step r8 → Cut LastLine r8 s5 ending → is_ending ending ≡ true
      → SpellsApp bytes (record { init = value init; step = value step; prefix = prefix; label = label })
  spelt c1 c2 c3 c4 c5 c6 c7 c8 c9 last = record {
    spaces1 = s1;
    spaces2 = s2;
    spaces3 = s3;
    spaces4 = s4;
    spaces5 = s5;
    init = init;
    step = step;
    ending = ending;
    blank1 = c1.kind;
    blank2 = c2.kind;
    blank3 = c3.kind;
    blank4 = c5.kind;
    blank5 = c9.kind;
    init_digits = c4.kind;
    init_value = refl;
    step_digits = c8.kind;
    step_value = refl;
    prefix_text = c6.kind;
    label_text = c7.kind;
    last = last;
    whole = c1.whole
        ∙ ap (λ (l : List ℕ). s1 ++ (word_of AppLine ++ l)) (c2.whole
        ∙ ap (λ (l : List ℕ). s2 ++ (word_of ViewLine ++ l)) (c3.whole
        ∙ ap (λ (l : List ℕ). s3 ++ (word_of BeforeInit ++ l)) (c4.whole
        ∙ ap (λ (l : List ℕ). init ++ (word_of AfterInit ++ l)) (c5.whole
        ∙ ap (λ (l : List ℕ). s4 ++ (word_of BeforePrefix ++ l)) (c6.whole
        ∙ ap (λ (l : List ℕ). prefix ++ (word_of BeforeLabel ++ l)) (c7.whole
        ∙ ap (λ (l : List ℕ). label ++ (word_of BeforeStep ++ l)) (c8.whole
        ∙ ap (λ (l : List ℕ). step ++ (word_of AfterStep ++ l)) c9.whole)))))));
  }
