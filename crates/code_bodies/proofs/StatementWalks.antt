-- The block of each form of a statement by what was made of its parts, and that the numbers in the blocks of its parts fit.
use Rattle.std.proofs.Common.{◌≡◌, refl, sym, ap, ◌∙◌, ℕ, ◌+◌, ◌≤◌, ◌⊎◌, List, [], ◌∷◌, ◌++◌, map, Bool, true, false, not, arith}
use Rattle.std.specs.Prelude.{Result, Ok, IfOk}
use Rattle.mesa_base.specs.Chain.{chain}
use Rattle.mesa_types.specs.Counts.{hidden, hidden_cases, hidden_expr, hidden_loop, words_of}
use Rattle.mesa_types.specs.Plain.{case, expr, loop, stmt}
use Rattle.mesa_types.specs.Typed as t
use Rattle.mesa_types.specs.declared.typed_parts.Home.{Home}
use Rattle.mesa_types.specs.declared.typed_tree.Case.{Case}
use Rattle.mesa_types.specs.declared.typed_tree.Loop.{Loop}
use Rattle.mesa_types.specs.declared.typed_tree.TypedExpr.{TypedExpr}
use Rattle.mesa_types.specs.declared.typed_tree.TypedStmt.{TypedStmt}
use Rattle.mesa_types.specs.declared.typed_tree.TypedStmt.TheVariants as v
use Rattle.mesa_types.specs.declared.typed_tree.Condition.TheFolds.{fold-roll-TypedStmt}
use Rattle.code_forms.specs.declared.instruction.Instruction.{Instruction}
use Rattle.code_rules.specs.Loops as loops
use Rattle.code_rules.specs.OwnCode.{pop_code}
use Rattle.code_rules.specs.Reading.{Coded}
use Rattle.code_blocks.specs.Blocks.{ArmBlocks, Block, Both, Does, Ends, Mark}
use Rattle.code_blocks.specs.Sizes.{size}
use Rattle.code_blocks.specs.Translation as spec
use Rattle.code_trees.specs.Excess.{excess, excess_in}
use Rattle.code_trees.specs.Forms.{assign_of, blocks_of, case_blocks, held_words, if_of, is_null, labelled, select_of}
use Rattle.code_trees.specs.Plain.{in_order}
use Rattle.code_trees.specs.Rows.{excess_among, sizes_in}
use Rattle.code_trees.specs.declared.held_parts.Held.{Held}
use Rattle.code_trees.proofs.OwnCode.{excess_both}
use Rattle.code_trees.proofs.RowFits.{among_fit, last_fits, row_fits}
use Rattle.code_trees.proofs.StatementLaws.{select_form}

-- parts of blocks

pub first_part : (a b : Block) → excess (Both a b) ≡ 0 → excess a ≡ 0
unfolding excess
first_part a b h = omega arith

pub last_part : (a b : Block) → excess (Both a b) ≡ 0 → excess b ≡ 0
unfolding excess
last_part a b h = omega arith

pub middle_part : (a b c : Block) → excess (Both a (Both b c)) ≡ 0 → excess b ≡ 0
middle_part a b c h = first_part b c (last_part a (Both b c) h)

pub ended_part : (mark : Mark) (a : Block) → excess (Ends mark a) ≡ 0 → excess a ≡ 0
unfolding excess
ended_part mark a h = h

pub code_part : (code last : List Instruction) → excess (Does (code ++ last)) ≡ 0 → excess_in code ≡ 0
unfolding excess
code_part code last h = omega (arith, excess_both code last)

-- the same parts, the same form

pub both_same : (a b c d : Block) → a ≡ b → c ≡ d → Both a c ≡ Both b d
both_same a b c d e f = ap (λ x. Both x c) e ∙ ap (Both b) f

pub if_same : (a b c d past e f : Block) → a ≡ b → c ≡ d → e ≡ f → if_of a c past e ≡ if_of b d past f
if_same a b c d past e f is_test is_first is_second =
    ap (λ x. if_of x c past e) is_test ∙ ap (λ x. if_of b x past e) is_first ∙ ap (if_of b d past) is_second

pub if_all_same : (a b c d past past_same e f : Block) → a ≡ b → c ≡ d → past ≡ past_same → e ≡ f → if_of a c past e ≡ if_of b d past_same f
if_all_same a b c d past past_same e f is_test is_first is_past is_second =
    ap (λ x. if_of a c x e) is_past ∙ if_same a b c d past_same e f is_test is_first is_second

pub code_same : (a b last : List Instruction) → a ≡ b → Does (a ++ last) ≡ Does (b ++ last)
code_same a b last is = ap (λ l. Does (l ++ last)) is

pub assign_same : (P : Coded) (h : Home) (s : t.Suffixes) (words way_words : ℕ) (a b c d : Block) → words ≡ way_words → a ≡ b → c ≡ d
    → assign_of P h s words a c ≡ assign_of P h s way_words b d
assign_same P h s words way_words a b c d is_words is_way is_set =
    ap (λ n. assign_of P h s n a c) is_words ∙ ap (λ x. assign_of P h s way_words x c) is_way ∙ ap (assign_of P h s way_words b) is_set

pub select_same : (none : Bool) (x held words same_words : ℕ) (a b : Block) (bs cs : List Block) (c d : Block) → words ≡ same_words → a ≡ b
    → bs ≡ cs → c ≡ d
    → select_of none x held words a bs c ≡ select_of none x held same_words b cs d
select_same none x held words same_words a b bs cs c d is_words is_selector is_cases is_last =
    ap (λ n. select_of none x held n a bs c) is_words
    ∙ ap (λ y. select_of none x held same_words y bs c) is_selector
    ∙ ap (λ l. select_of none x held same_words b l c) is_cases
    ∙ ap (select_of none x held same_words b cs) is_last

pub enclosed_same : (es : t.Exits) (bs cs : List Block) (arms same_arms : ArmBlocks) (a b past : Block) → bs ≡ cs → arms ≡ same_arms → a ≡ b
    → labelled es bs (Both (spec.enabled arms a) past) ≡ labelled es cs (Both (spec.enabled same_arms b) past)
enclosed_same es bs cs arms same_arms a b past is_held is_arms is_body =
    ap (λ l. labelled es l (Both (spec.enabled arms a) past)) is_held
    ∙ ap (λ x. labelled es cs (Both (spec.enabled x a) past)) is_arms
    ∙ ap (λ x. labelled es cs (Both (spec.enabled same_arms x) past)) is_body

pub looped_same : (es : t.Exits) (bs cs : List Block) (a b c d : Block) → bs ≡ cs → a ≡ b → c ≡ d → labelled es bs (Both a c) ≡ labelled es cs
    (Both b d)
looped_same es bs cs a b c d is_held is_rounds is_last =
    ap (λ l. labelled es l (Both a c)) is_held ∙ ap (labelled es cs) (both_same a b c d is_rounds is_last)

pub case_same : (a b c d past : Block) → a ≡ b → c ≡ d → spec.a_case a c past ≡ spec.a_case b d past
case_same a b c d past is_tests is_statement = ap (λ x. spec.a_case x c past) is_tests ∙ ap (λ x. spec.a_case b x past) is_statement

-- Perform

module _ (P : Coded) (z : ℕ) (x : TypedStmt) (e : TypedExpr) (is : x ≡ v.Perform e) where
  read_perform : stmt x ≡ t.Perform (expr e)
  read_perform = ap stmt (is ∙ sym (v.rolls-Perform e)) ∙ rw fold-roll-TypedStmt refl

  pub perform_form : spec.block P z (stmt x) ≡ Both (spec.forms P z (expr e)).value (Does (pop_code (words_of (expr e))))
  perform_form = ap (spec.block P z) read_perform

  pub perform_hidden : hidden (stmt x) ≡ hidden_expr (expr e)
  unfolding hidden
  perform_hidden = ap hidden read_perform

-- Repeat

module _ (P : Coded) (z : ℕ) (x : TypedStmt) (l read : Loop) (is : x ≡ v.Repeat l) (is_l : read ≡ l) where
  read_repeat : stmt x ≡ t.Repeat t.Endless (loop read)
  read_repeat = ap stmt (is ∙ sym (v.rolls-Repeat l)) ∙ rw fold-roll-TypedStmt (ap (λ y. t.Repeat t.Endless (loop y)) (sym is_l))

  pub repeat_form : spec.block P z (stmt x) ≡ spec.loop P z loops.NoCounter (loop read)
  repeat_form = ap (spec.block P z) read_repeat

  pub repeat_hidden : hidden (stmt x) ≡ hidden_loop (loop read)
  unfolding hidden
  repeat_hidden = ap hidden read_repeat

-- Select and SelectLong

pub otherwise_fits : (none : Bool) (x held words : ℕ) (selector : Block) (bs : List Block) (last : Block)
    → excess (select_of none x held words selector bs last) ≡ 0 → excess last ≡ 0
unfolding excess
otherwise_fits true x held words selector bs last h = omega arith
otherwise_fits false x held words selector bs last h = last_fits bs last (omega arith)

cases_in_select : (x held words : ℕ) (selector : Block) (bs : List Block) (last : Block)
    → excess (select_of false x held words selector bs last) ≡ 0 → excess (in_order bs last) ≡ 0
unfolding excess
cases_in_select x held words selector bs last h = omega arith

abbrev IsSelect : TypedStmt → TypedExpr → List Case → TypedStmt → Type 0
IsSelect x e cs s = (x ≡ v.Select e cs s) ⊎ (x ≡ v.SelectLong e cs s)

module _ (P : Coded) (z : ℕ) (x : TypedStmt) (e : TypedExpr) (s read_s : TypedStmt) (held one two : ℕ) (is_s : read_s ≡ s)
    (is_held : held ≡ held_words (stmt x)) (is_one : one ≡ z + held) (is_two : two ≡ one + hidden_expr (expr e))
    (fit : excess (spec.block P z (stmt x)) ≡ 0) where
  rows_by : (cs read_cs : List Case) → IsSelect x e cs s → read_cs ≡ cs
      → (excess_among (case_blocks P two z (not (is_null (stmt read_s))) (chain (map case read_cs) (t.Otherwise t.Null))) ≡ 0)
      × (sizes_in (case_blocks P two z (not (is_null (stmt read_s))) (chain (map case read_cs) (t.Otherwise t.Null))) ≤ 4294967295)
  unfolding case_blocks excess_among sizes_in
  rows_by cs [] is is_cs = (refl, omega arith)
  rows_by cs (c ∷ rest) is is_cs =
      let bs : List Block = case_blocks P two z (not (is_null (stmt read_s))) (chain (map case (c ∷ rest)) (t.Otherwise t.Null)) in
      let three : ℕ = two + hidden_cases (chain (map case (c ∷ rest)) (t.Otherwise t.Null)) in
      let form = select_form P z x e cs s (c ∷ rest) read_s is_cs is_s is held is_held one two three false is_one is_two refl (λ h. cc) (λ _ h. cc) in
      let whole : excess (in_order bs (spec.block P three (stmt read_s))) ≡ 0
      = cases_in_select z held (words_of (expr e)) (spec.forms P one (expr e)).value bs (spec.block P three (stmt read_s)) (ap excess (sym form) ∙ fit) in
      let small : sizes_in bs + size (spec.block P three (stmt read_s)) ≤ 4294967295 = row_fits bs (spec.block P three (stmt read_s)) whole in
      (among_fit bs (spec.block P three (stmt read_s)) whole, omega (arith, small))

  pub cases_fit : (cs read_cs : List Case) → IsSelect x e cs s → read_cs ≡ cs
      → excess_among (case_blocks P two z (not (is_null (stmt read_s))) (chain (map case read_cs) (t.Otherwise t.Null))) ≡ 0
  cases_fit cs read_cs is is_cs = (rows_by cs read_cs is is_cs).0

  pub cases_small : (cs read_cs : List Case) → IsSelect x e cs s → read_cs ≡ cs
      → sizes_in (case_blocks P two z (not (is_null (stmt read_s))) (chain (map case read_cs) (t.Otherwise t.Null))) ≤ 4294967295
  cases_small cs read_cs is is_cs = (rows_by cs read_cs is is_cs).1

module _ (P : Coded) (z held one : ℕ) (x : TypedStmt) (e : TypedExpr) (s : TypedStmt) (is_held : held ≡ held_words (stmt x)) (is_one : one ≡ z + held)
    (fit : excess (spec.block P z (stmt x)) ≡ 0) where
  pub selector_value : (cs : List Case) → IsSelect x e cs s → excess ((spec.forms P one (expr e)).value) ≡ 0
  selector_value [] is =
      let form = select_form P z x e [] s [] s refl refl is held is_held one (one + hidden_expr (expr e)) (one + hidden_expr (expr e) + hidden_cases
      (t.Otherwise t.Null)) true is_one refl refl (λ _. refl) (λ h _. cc) in
      first_part (spec.forms P one (expr e)).value _ (ap excess (sym form) ∙ fit)
  selector_value (c ∷ cs) is =
      let form = select_form P z x e (c ∷ cs) s (c ∷ cs) s refl refl is held is_held one (one + hidden_expr (expr e)) (one + hidden_expr (expr e)
      + hidden_cases (chain (map case (c ∷ cs)) (t.Otherwise t.Null))) false is_one refl refl (λ h. cc) (λ _ h. cc) in
      first_part (spec.forms P one (expr e)).value _ (ap excess (sym form) ∙ fit)

module _ (P : Coded) (z held one two three : ℕ) (x : TypedStmt) (e : TypedExpr) (s read_s : TypedStmt) (is_s : read_s ≡ s)
    (is_held : held ≡ held_words (stmt x)) (is_one : one ≡ z + held) (is_two : two ≡ one + hidden_expr (expr e))
    (fit : excess (spec.block P z (stmt x)) ≡ 0) where
  pub last_statement : (cs read_cs : List Case) → IsSelect x e cs s → read_cs ≡ cs → three ≡ two + hidden_cases
      (chain (map case read_cs) (t.Otherwise t.Null))
      → excess (spec.block P three (stmt read_s)) ≡ 0
  last_statement cs [] is is_cs is_three =
      let form = select_form P z x e cs s [] read_s is_cs is_s is held is_held one two three true is_one is_two is_three (λ _. refl) (λ h _. cc) in
      otherwise_fits true z held (words_of (expr e)) (spec.forms P one (expr e)).value [] (spec.block P three (stmt read_s)) (ap excess (sym form) ∙ fit)
  last_statement cs (c ∷ rest) is is_cs is_three =
      let form = select_form P z x e cs s (c ∷ rest) read_s is_cs is_s is held is_held one two three false is_one is_two is_three (λ h. cc)
      (λ _ h. cc) in
      otherwise_fits false z held (words_of (expr e)) (spec.forms P one (expr e)).value
      (case_blocks P two z (not (is_null (stmt read_s))) (chain (map case (c ∷ rest)) (t.Otherwise t.Null))) (spec.block P three (stmt read_s))
      (ap excess (sym form) ∙ fit)

-- values that are given

pub code_made : {E : Type 0} (r : Result (List Instruction × ℕ) E) (x : List Instruction × ℕ) (code : List Instruction) → r ≡ Ok x
    → IfOk r (λ y. y.0 ≡ code) → x.0 ≡ code
code_made r x code is h = rw is at h

pub words_made : {E : Type 0} (r : Result (List Instruction × ℕ) E) (x : List Instruction × ℕ) (n : ℕ) → r ≡ Ok x → IfOk r (λ y. y.1 ≡ n) → x.1 ≡ n
words_made r x n is h = rw is at h

pub held_made : {E : Type 0} (r : Result Held E) (x : Held) (bs : List Block) → r ≡ Ok x → IfOk r (λ y. blocks_of y.parts.items ≡ bs) → blocks_of
    x.parts.items ≡ bs
held_made r x bs is h = rw is at h
