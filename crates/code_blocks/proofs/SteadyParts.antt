-- Parts of the blocks of statements are steady.
use Rattle.std.proofs.Common.{◌≡◌, refl, ap, ◌∙◌, ℕ, suc, ◌+◌, ◌-◌, ◌<◌, ◌≤◌, List, [], ◌∷◌, Bool, true, false, if◌then◌else◌, arith}
use Rattle.mesa_types.specs.declared.typed_parts.Base.{Base}
use Rattle.mesa_types.specs.declared.typed_parts.Bases.{Bases}
use Rattle.mesa_types.specs.declared.typed_parts.Conversion.{Conversion}
use Rattle.mesa_types.specs.declared.typed_parts.Home.{Home}
use Rattle.mesa_types.specs.declared.typed_parts.Part.{Part}
use Rattle.mesa_types.specs.declared.typed_parts.Range.{Range}
use Rattle.mesa_base.specs.declared.relation.Relation.{Relation}
use Rattle.mesa_types.specs.Counts.{hidden_suffixes, words_of, words_before, words_after}
use Rattle.mesa_types.specs.Shapes.{words_in_all}
use Rattle.mesa_types.specs.Sound.{Scope, a_word, a_long, ExprIn, IntervalIn, LongIntervalIn, TargetsIn}
use Rattle.mesa_types.specs.Typed.{Kinds, Expr, Suffixes, Interval, Stmt, Null, Marked, Declare, DeclareAs, Assign, Extract, Perform, If, Select, SelectLong, Block, Repeat, For, Jump, ReturnWith, Resume, Reject, Retry, Continue, Targets, NoTargets, AndTarget, AndConverted, Cases, Otherwise, AndCase, Exits, NoExits, AndExit}
use Rattle.code_forms.specs.declared.instruction.Instruction.TheVariants as i
use Rattle.code_forms.specs.Routine.{Routine}
use Rattle.code_rules.specs.CodeFor.{words_taken, words_over}
use Rattle.code_rules.specs.Loops.{Counter, NoCounter, CountedIn, next_slot, step_code}
use Rattle.code_rules.specs.OwnCode.{check_code, conversion_code, comparison, long_comparison}
use Rattle.code_rules.specs.Reading.{Coded, scratch}
use Rattle.code_rules.specs.Slots.{store, store_within, fields_of}
use Rattle.code_rules.proofs.Depths.{own_code_keeps_words}
use Rattle.code_blocks.specs.Blocks as tree
use Rattle.code_blocks.specs.Blocks.{Here, Where, Does, Ends, Out, ◌▹◌}
use Rattle.code_blocks.specs.Own.{left_of}
use Rattle.code_blocks.specs.Sizes.{depth_behind}
use Rattle.code_blocks.specs.Translation.{has_index, at_element, within_of, long_within_of, where_related, where_long_related, head_code, gives_next, past_else, past_cases, past_exits, a_case, unless, forms, bounds, path, targets}
use Rattle.code_blocks.specs.Writing.{end_at}
use Rattle.code_blocks.proofs.ExtractRows.{HaveWords, NoneTaken, bare_laid, check_left, element_left, element_own, plain_left, plain_own, element_converted_left, element_converted, plain_converted_left, plain_converted, target_part, converted_part}
use Rattle.code_blocks.proofs.Fine.{fine_at}
use Rattle.code_blocks.proofs.FineCode.{pop_fine, check_fine, conversion_fine, comparison_fine, long_comparison_fine, within_of_fine, long_within_of_fine, give_fine, step_fine, store_fine, store_within_fine}
use Rattle.code_blocks.proofs.LoopRows.{give_left, step_left}
use Rattle.code_blocks.proofs.Parts.{IsPart, AreParts, part_fits}
use Rattle.code_blocks.proofs.Steady.{Steady}
use Rattle.code_blocks.proofs.SteadyRows.{at, Rests, rest_both, rest_here, rest_out, brought_fine, converted_fine}
use Rattle.code_blocks.proofs.Values.{word_is, long_is, behind, comparison_left, long_comparison_left, within_left, long_within_left, value_depth, bounds_depth, long_bounds_depth, path_depth, none, own_left}

-- a test that is the last one and another lead to ends that find no words
test_end : (last : Bool) (ends : List ℕ) → end_at (0 ∷ 0 ∷ ends) (if last then 1 else 0) ≡ 0
test_end true ends = refl
test_end false ends = refl

-- a word behind an expression
pub word_behind : (U : Coded) (Γ : Scope) (e : Expr) → ExprIn Γ e a_word → (z d : ℕ) → depth_behind (forms U z e).value d ≡ d + 1
word_behind U Γ e h z d = value_depth U Γ e a_word h z d ∙ ap (λ n. d + n) (word_is Γ e h)

-- the two of a LONG one
pub long_behind : (U : Coded) (Γ : Scope) (e : Expr) → ExprIn Γ e a_long → (z d : ℕ) → depth_behind (forms U z e).value d ≡ d + 2
long_behind U Γ e h z d = value_depth U Γ e a_long h z d ∙ ap (λ n. d + n) (long_is Γ e h)

-- a selector's words become two
made_two : (x : ℕ) (c : Conversion) → words_after c ≡ 2 → left_of (i.LoadL x (words_before c) ∷ conversion_code c) 0 ≡ 2
made_two x c two = own_left (conversion_code c) {n = 0 + words_before c} (omega arith) (own_code_keeps_words.conversion none c 0) ∙ omega (arith, two)

module _ (r : Routine) where
  pub past_else_rests : (s : Stmt) (part : ℕ) (ends : List ℕ) → end_at ends part ≡ 0 → Rests r (past_else s part) ends
  past_else_rests Null part ends e = (tt, refl)
  past_else_rests (Marked k s) part ends e = rest_out r part ends e
  past_else_rests (Declare hs k) part ends e = rest_out r part ends e
  past_else_rests (DeclareAs hs k x) part ends e = rest_out r part ends e
  past_else_rests (Assign h s x) part ends e = rest_out r part ends e
  past_else_rests (Extract b ts x) part ends e = rest_out r part ends e
  past_else_rests (Perform x) part ends e = rest_out r part ends e
  past_else_rests (If x s t) part ends e = rest_out r part ends e
  past_else_rests (Select x cs) part ends e = rest_out r part ends e
  past_else_rests (SelectLong x cs) part ends e = rest_out r part ends e
  past_else_rests (Block ph ss es) part ends e = rest_out r part ends e
  past_else_rests (Repeat c l) part ends e = rest_out r part ends e
  past_else_rests (For g down base range l) part ends e = rest_out r part ends e
  past_else_rests (Jump arms goal) part ends e = rest_out r part ends e
  past_else_rests (ReturnWith arms first places es) part ends e = rest_out r part ends e
  past_else_rests (Resume places es) part ends e = rest_out r part ends e
  past_else_rests Reject part ends e = rest_out r part ends e
  past_else_rests (Retry k) part ends e = rest_out r part ends e
  past_else_rests (Continue k) part ends e = rest_out r part ends e

  pub past_cases_rests : (cs : Cases) (part : ℕ) (ends : List ℕ) → end_at ends part ≡ 0 → Rests r (past_cases cs part) ends
  past_cases_rests (Otherwise s) part ends e = past_else_rests s part ends e
  past_cases_rests (AndCase ts s cs) part ends e = rest_out r part ends e

  pub past_exits_rests : (es : Exits) (part : ℕ) (ends : List ℕ) → end_at ends part ≡ 0 → Rests r (past_exits es part) ends
  past_exits_rests NoExits part ends e = (tt, refl)
  past_exits_rests (AndExit ls s es) part ends e = rest_out r part ends e

  pub unless_rests : (x : Bool) (b : tree.Block) (ends : List ℕ) → Rests r b ends → Rests r (unless x b) ends
  unless_rests true b ends h = (tt, refl)
  unless_rests false b ends h = h

  pub a_case_rests : (tests statement past : tree.Block) (ends : List ℕ) → Rests r tests (0 ∷ 0 ∷ ends) → Rests r statement (0 ∷ ends)
      → Rests r past (0 ∷ ends) → Rests r (a_case tests statement past) ends
  a_case_rests tests statement past ends t s p =
      rest_here r (Ends (Here 0) tests ▹ statement ▹ past) ends
      (rest_both r (Ends (Here 0) tests) (statement ▹ past) (0 ∷ ends) (rest_here r tests (0 ∷ ends) t) (rest_both r statement past (0 ∷ ends) s p))

  -- a round's head, and its end
  pub head_rests : (k : Counter) (ends : List ℕ) → Rests r (head_code k) (0 ∷ ends)
  head_rests NoCounter ends = (tt, refl)
  head_rests (CountedIn z g down) ends = (((omega arith, tt), (omega arith, omega arith)), omega arith)

  pub step_rests : (k : Counter) (ends : List ℕ) → Rests r (Does (step_code k)) ends
  step_rests k ends = (step_fine k 0, step_left k 0)

  module _ (U : Coded) where
    pub gives_rests : (k : Counter) (ends : List ℕ) → Rests r (gives_next U k) ends
    gives_rests NoCounter ends = (tt, refl)
    gives_rests (CountedIn z g down) ends = (give_fine U g (next_slot z down) 0, give_left (bare_laid U) g (next_slot z down) 0)

    -- a value that is stored in a variable or in a part of one
    pub stored_steady : (h : Home) (s : Suffixes) (e : Expr) (z : ℕ) (ends : List ℕ) → Steady r (path U z s) 1 ends → depth_behind (path U z s) 1 ≡ 1
        → ((y d : ℕ) → Steady r (forms U y e).value d ends) → ((y d : ℕ) → depth_behind (forms U y e).value d ≡ d + words_of e) → (x : Bool)
        → Steady r (if x then at_element s (path U z s ▹ (forms U (z + hidden_suffixes s) e).value ▹ Does (store_within U h (words_of e) ∷ []))
        else ((forms U z e).value ▹ Does (store U h (fields_of s) (words_of e) ∷ []))) 0 ends
    stored_steady h s e z ends p kept v left true =
        let y = z + hidden_suffixes s in
        let start : 0 - 0 + 1 ≡ 1 = omega arith in
        let there = behind (path U z s) start kept in
        let value = (forms U y e).value in (
          (omega arith, tt),
          (
            at r (path U z s) ends start p,
            (
              at r value ends there (v y 1),
              store_within_fine U h (words_of e) (depth_behind value (depth_behind (path U z s) (0 - 0 + 1)))
                  (omega (arith, behind value there (left y 1))),
            ),
          ),
        )
    stored_steady h s e z ends p kept v left false =
        (v z 0, store_fine U h (fields_of s) (words_of e) (depth_behind (forms U z e).value 0) (omega (arith, left z 0)))

    -- A test of a selector in slot x.

    pub related_rests : (Γ : Scope) (z x : ℕ) (g : Range) (base : Base) (o : Relation) (e : Expr) (sense last : Bool) (ends : List ℕ) → ExprIn Γ e a_word
        → Steady r (forms U z e).value 1 (0 ∷ 0 ∷ ends)
        → Rests r (Does (i.LoadL x 1 ∷ check_code g) ▹ (forms U z e).value ▹ where_related base o sense (if last then 1 else 0)) (0 ∷ 0 ∷ ends)
    related_rests Γ z x g base o e sense last ends h v =
        let value = (forms U z e).value in
        let here = test_end last ends in
        let loaded : left_of (check_code g) (0 - 0 + 1) ≡ 1 = check_left g (0 - 0 + 1) (omega arith) ∙ omega arith in
        let both : depth_behind value (left_of (check_code g) (0 - 0 + 1)) ≡ 2 = behind value loaded (word_behind U Γ e h z 1 ∙ omega arith) in
        let compared : left_of (comparison base o) (depth_behind value (left_of (check_code g) (0 - 0 + 1))) ≡ 1 =
        ap (left_of (comparison base o)) {y = 0 + 2} (both ∙ omega arith) ∙ comparison_left U base o 0 ∙ omega arith in (
          (
            (omega arith, check_fine g (0 - 0 + 1) (omega arith)),
            (
              at r value (0 ∷ 0 ∷ ends) loaded v,
              (
                fine_at (comparison base o) {n = 0 + 2} (both ∙ omega arith) (comparison_fine base o 0),
                (omega (arith, compared), omega (arith, compared, here)),
              ),
            ),
          ),
          omega (arith, compared),
        )

    pub within_rests : (Γ : Scope) (z x : ℕ) (bases : Bases) (range : Interval) (sense last : Bool) (ends : List ℕ) → IntervalIn Γ range
        → Steady r (bounds U z range) 1 (0 ∷ 0 ∷ ends)
        → Rests r (Does (i.LoadL x 1 ∷ []) ▹ bounds U z range ▹ Does (within_of (scratch U) bases range) ▹ Out (Where sense) (if last then 1 else 0)) (0 ∷ 0 ∷ ends)
    within_rests Γ z x bases range sense last ends h v =
        let here = test_end last ends in
        let loaded : 0 - 0 + 1 ≡ 1 = omega arith in
        let three : depth_behind (bounds U z range) (0 - 0 + 1) ≡ 0 + 3 = behind (bounds U z range) loaded (bounds_depth U Γ range h z 1 ∙ omega arith) in
        let tested : left_of (within_of (scratch U) bases range) (depth_behind (bounds U z range) (0 - 0 + 1)) ≡ 1 =
        within_left U bases range (depth_behind (bounds U z range) (0 - 0 + 1)) 0 three ∙ omega arith in (
          (
            (omega arith, tt),
            (
              at r (bounds U z range) (0 ∷ 0 ∷ ends) loaded v,
              (fine_at (within_of (scratch U) bases range) three (within_of_fine (scratch U) bases range 0), (omega (arith, tested), omega (arith, tested, here))),
            ),
          ),
          omega (arith, tested),
        )

    pub long_related_rests : (Γ : Scope) (z x : ℕ) (c : Conversion) (base : Base) (o : Relation) (e : Expr) (sense last : Bool) (ends : List ℕ)
        → words_after c ≡ 2 → ExprIn Γ e a_long → Steady r (forms U z e).value 2 (0 ∷ 0 ∷ ends)
        → Rests r (Does (i.LoadL x (words_before c) ∷ conversion_code c) ▹ (forms U z e).value ▹ where_long_related base o sense (if last then 1 else 0))
        (0 ∷ 0 ∷ ends)
    long_related_rests Γ z x c base o e sense last ends long h v =
        let value = (forms U z e).value in
        let here = test_end last ends in
        let own = i.LoadL x (words_before c) ∷ conversion_code c in
        let loaded : left_of own 0 ≡ 2 = made_two x c long in
        let both : depth_behind value (left_of own 0) ≡ 4 = behind value loaded (long_behind U Γ e h z 2 ∙ omega arith) in
        let compared : left_of (long_comparison base o) (depth_behind value (left_of own 0)) ≡ 1 =
        ap (left_of (long_comparison base o)) {y = 0 + 4} (both ∙ omega arith) ∙ long_comparison_left U base o 0 ∙ omega arith in (
          (
            (omega arith, conversion_fine c (0 - 0 + words_before c) (omega arith)),
            (
              at r value (0 ∷ 0 ∷ ends) loaded v,
              (
                fine_at (long_comparison base o) {n = 0 + 4} (both ∙ omega arith) (long_comparison_fine base o 0),
                (omega (arith, compared), omega (arith, compared, here)),
              ),
            ),
          ),
          omega (arith, compared),
        )

    pub long_within_rests : (Γ : Scope) (z x : ℕ) (c : Conversion) (bases : Bases) (range : Interval) (sense last : Bool) (ends : List ℕ)
        → words_after c ≡ 2 → LongIntervalIn Γ range → Steady r (bounds U z range) 2 (0 ∷ 0 ∷ ends)
        → Rests r (Does (i.LoadL x (words_before c) ∷ conversion_code c) ▹ bounds U z range ▹ Does (long_within_of (scratch U) bases range)
        ▹ Out (Where sense) (if last then 1 else 0)) (0 ∷ 0 ∷ ends)
    long_within_rests Γ z x c bases range sense last ends long h v =
        let here = test_end last ends in
        let own = i.LoadL x (words_before c) ∷ conversion_code c in
        let loaded : left_of own 0 ≡ 2 = made_two x c long in
        let six : depth_behind (bounds U z range) (left_of own 0) ≡ 0 + 6 = behind (bounds U z range) loaded (long_bounds_depth U Γ range h z 2 ∙ omega arith) in
        let tested : left_of (long_within_of (scratch U) bases range) (depth_behind (bounds U z range) (left_of own 0)) ≡ 1 =
        long_within_left U bases range (depth_behind (bounds U z range) (left_of own 0)) 0 six ∙ omega arith in (
          (
            (omega arith, conversion_fine c (0 - 0 + words_before c) (omega arith)),
            (
              at r (bounds U z range) (0 ∷ 0 ∷ ends) loaded v,
              (
                fine_at (long_within_of (scratch U) bases range) six (long_within_of_fine (scratch U) bases range 0),
                (omega (arith, tested), omega (arith, tested, here)),
              ),
            ),
          ),
          omega (arith, tested),
        )

    -- An extractor's targets.

    abbrev pub PathsSteady : Targets → Type 0
    PathsSteady NoTargets = Unit {0}
    PathsSteady (AndTarget p h s g ts) = ((z d : ℕ) (ends : List ℕ) → Steady r (path U z s) (d + 1) ends) × PathsSteady ts
    PathsSteady (AndConverted p h s c ts) = ((z d : ℕ) (ends : List ℕ) → Steady r (path U z s) (d + 1) ends) × PathsSteady ts

    module _ (Γ : Scope) (words : HaveWords Γ) (ks : Kinds) where
      abbrev all : ℕ
      all = words_in_all ks

      pub targets_steady : (ts : Targets) → TargetsIn Γ ts ks → PathsSteady ts → (parts : List Part) → AreParts ks parts → NoneTaken parts ts
          → (z d : ℕ) (ends : List ℕ) → Steady r (targets U z all parts ts) (d + (all - words_taken parts)) ends
      unfolding TargetsIn
      targets_steady NoTargets t paths parts are new z d ends = pop_fine (all - words_taken parts) (d + (all - words_taken parts)) (omega arith)
      targets_steady (AndTarget p h s g ts) t paths parts are new z d ends =
          go (targets_steady ts t.7 paths.1 (p ∷ parts) (here.0, new.0, are) new.1 (z + hidden_suffixes s) d ends)
          (targets_steady ts t.7 paths.1 (p ∷ parts) (here.0, new.0, are) new.1 z d ends) (has_index s)
        where
          here : IsPart ks p × (0 < p.words)
          here = target_part (bare_laid U) Γ words ks p h s g ts t

          rest : ℕ
          rest = all - words_taken parts

          fits : p.words + words_over all parts p ≤ rest
          fits = part_fits ks p parts here.0 here.1 are new.0

          n : ℕ
          n = d + rest

          go : Steady r (targets U (z + hidden_suffixes s) all (p ∷ parts) ts) (d + (all - words_taken (p ∷ parts))) ends
              → Steady r (targets U z all (p ∷ parts) ts) (d + (all - words_taken (p ∷ parts))) ends → (x : Bool)
              → Steady r (if x then at_element s (path U z s ▹ Does (element_own (bare_laid U) Γ words ks p parts h g) ▹ targets U (z + hidden_suffixes s) all (p ∷ parts) ts)
              else (Does (plain_own (bare_laid U) Γ words ks p parts h s g) ▹ targets U z all (p ∷ parts) ts)) (d + (all - words_taken parts)) ends
          go e f true =
              let start : n - 0 + 1 ≡ n + 1 = omega arith in
              let own = element_own (bare_laid U) Γ words ks p parts h g in
              let there = behind (path U z s) start (path_depth U Γ s t.1 t.0 t.5 z n) in (
                (omega arith, tt),
                (
                  at r (path U z s) ends start (paths.0 z n ends),
                  (
                    fine_at own there
                        (brought_fine p.words (suc (words_over all parts p)) g (store_within U h p.words) (n + 1) (omega (arith, fits)) (omega arith)
                        (store_within_fine U h p.words (n + 1) (omega (arith, fits)))),
                    at r (targets U (z + hidden_suffixes s) all (p ∷ parts) ts) ends
                        (ap (left_of own) there ∙ element_left (bare_laid U) Γ words ks p parts h g d fits here.1) e,
                  ),
                ),
              )
          go e f false = (
            brought_fine p.words (words_over all parts p) g (store U h (fields_of s) p.words) n (omega (arith, fits)) (omega (arith, fits, here.1))
                (store_fine U h (fields_of s) p.words n (omega (arith, fits))),
            at r (targets U z all (p ∷ parts) ts) ends (plain_left (bare_laid U) Γ words ks p parts h s g d fits here.1) f,
          )
      targets_steady (AndConverted p h s c ts) t paths parts are new z d ends =
          go (targets_steady ts t.9 paths.1 (p ∷ parts) (here.0, new.0, are) new.1 (z + hidden_suffixes s) d ends)
          (targets_steady ts t.9 paths.1 (p ∷ parts) (here.0, new.0, are) new.1 z d ends) (has_index s)
        where
          here : IsPart ks p × (0 < p.words) × (p.words ≡ words_before c)
          here = converted_part (bare_laid U) Γ words ks p h s c ts t

          rest : ℕ
          rest = all - words_taken parts

          fits : p.words + words_over all parts p ≤ rest
          fits = part_fits ks p parts here.0 here.1 are new.0

          n : ℕ
          n = d + rest

          left : ℕ
          left = d + (all - words_taken (p ∷ parts))

          go : Steady r (targets U (z + hidden_suffixes s) all (p ∷ parts) ts) (d + (all - words_taken (p ∷ parts))) ends
              → Steady r (targets U z all (p ∷ parts) ts) (d + (all - words_taken (p ∷ parts))) ends → (x : Bool)
              → Steady r (if x
              then at_element s (path U z s ▹ Does (element_converted (bare_laid U) Γ words ks p parts h c) ▹ targets U (z + hidden_suffixes s) all (p ∷ parts) ts)
              else (Does (plain_converted (bare_laid U) Γ words ks p parts h s c) ▹ targets U z all (p ∷ parts) ts)) (d + (all - words_taken parts)) ends
          go e f true =
              let start : n - 0 + 1 ≡ n + 1 = omega arith in
              let own = element_converted (bare_laid U) Γ words ks p parts h c in
              let there = behind (path U z s) start (path_depth U Γ s t.2 t.1 t.8 z n) in (
                (omega arith, tt),
                (
                  at r (path U z s) ends start (paths.0 z n ends),
                  (
                    fine_at own {n = left + 1 + p.words} (there ∙ omega (arith, fits))
                        (converted_fine p.words (suc (words_over all parts p)) c (store_within U h (words_after c)) (left + 1) here.2 (omega (arith, fits))
                        (store_within_fine U h (words_after c) (left + 1 + words_after c) (omega arith))),
                    at r (targets U (z + hidden_suffixes s) all (p ∷ parts) ts) ends
                        (ap (left_of own) there ∙ element_converted_left (bare_laid U) Γ words ks p parts h c d fits here.2) e,
                  ),
                ),
              )
          go e f false = (
            fine_at (plain_converted (bare_laid U) Γ words ks p parts h s c) {n = left + p.words} (omega (arith, fits))
                (converted_fine p.words (words_over all parts p) c (store U h (fields_of s) (words_after c)) left here.2 (omega (arith, fits))
                (store_fine U h (fields_of s) (words_after c) (left + words_after c) (omega arith))),
            at r (targets U z all (p ∷ parts) ts) ends (plain_converted_left (bare_laid U) Γ words ks p parts h s c d fits here.2) f,
          )
