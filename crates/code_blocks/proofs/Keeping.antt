-- The block of a sound statement leaves the operand stack as it was.
use Rattle.std.proofs.Common.{◌≡◌, refl, ap, ◌∙◌, ℕ, ◌+◌, ◌-◌, [], ◌∷◌, ◌++◌, Bool, true, false, if◌then◌else◌, arith}
use Rattle.mesa_types.specs.declared.typed_parts.Home.{Home}
use Rattle.mesa_types.specs.Typed.{Kind, Kinds, Ordinal, Record, Expr, Suffixes, Stmt, Null, Marked, Declare, DeclareAs, Assign, Extract, Perform, If, Select, SelectLong, Block, Repeat, For, Jump, ReturnWith, Resume, Reject, Retry, Continue, Stmts, NoStmts, AndStmt, Cases, Otherwise, AndCase, Loop, LoopOf}
use Rattle.mesa_types.specs.Counts.{hidden, hidden_expr, hidden_suffixes, hidden_interval, words_of, words_given}
use Rattle.mesa_types.specs.Shapes.{words_in, words_in_all, one}
use Rattle.mesa_types.specs.Sound.{Scope, ExprIn, a_long, Selects, CasesTake, StmtIn, StmtsIn, CasesIn}
use Rattle.code_forms.specs.declared.instruction.Instruction.TheVariants as i
use Rattle.code_rules.specs.OwnCode.{pop_code, arrange_code}
use Rattle.code_rules.specs.Reading.{Coded}
use Rattle.code_rules.specs.Slots.{local_slot, store, store_within, fields_of, spread_code, sizes}
use Rattle.code_blocks.specs.Blocks.{Does, ◌▹◌}
use Rattle.code_blocks.specs.Own.{left_of}
use Rattle.code_blocks.specs.Sizes.{depth_behind}
use Rattle.code_blocks.specs.Translation.{has_index, at_element, start_of, forms, path, block, blocks, selected, loop}
use Rattle.mesa_types.proofs.WordSizes.{sizes_agree}
use Rattle.code_blocks.proofs.ExtractRows.{HaveWords, extract_keeps}
use Rattle.code_blocks.proofs.StatementDepths.{pop_left, start_left, zero_left, spread_left, store_left, store_within_left, arranged_taken}
use Rattle.code_blocks.proofs.Values.{one_is, long_is, behind, value_depth, values_depth, bounds_depth, path_depth}

-- what the tests of a selector of a word take
pub selects_take : (k : Kind) (cs : Cases) → Selects k cs → CasesTake Ordinal cs
unfolding Selects CasesTake
selects_take k (Otherwise s) h = tt
selects_take k (AndCase ts s cs) h = h.1

module _ (U : Coded) where
  -- a statement that stores a value in a variable or a part of one
  stored : (h : Home) (s : Suffixes) (e : Expr) (z d : ℕ) → depth_behind (path U z s) (d + 1) ≡ d + 1
      → ((y n : ℕ) → depth_behind (forms U y e).value n ≡ n + words_of e) → (x : Bool)
      → depth_behind (if x then at_element s (path U z s ▹ (forms U (z + hidden_suffixes s) e).value ▹ Does (store_within U h (words_of e) ∷ []))
      else ((forms U z e).value ▹ Does (store U h (fields_of s) (words_of e) ∷ []))) d ≡ d
  stored h s e z d p v true =
      behind (Does (store_within U h (words_of e) ∷ []))
      (behind (forms U (z + hidden_suffixes s) e).value (behind (path U z s) {m = d - 0 + 1} {n = d + 1} (omega arith) p) (v (z + hidden_suffixes s) (d + 1)))
      (store_within_left U h (words_of e) d)
  stored h s e z d p v false = behind (Does (store U h (fields_of s) (words_of e) ∷ [])) (v z d) (store_left U h (fields_of s) (words_of e) d)

  looped : (z d : ℕ) (k : _) (l : Loop) → depth_behind (loop U z k l) d ≡ d
  looped z d k (LoopOf cond s es fin) = refl

  pub record_words : (Γ : Scope) (e : Expr) (ks : Kinds) → ExprIn Γ e (one (Record ks)) → words_of e ≡ words_in_all ks
  unfolding words_in
  record_words Γ e ks h = one_is Γ e (Record ks) h

  pub ordinal_word : (Γ : Scope) (e : Expr) (k : Kind) → ExprIn Γ e (one k) → k ≡ Ordinal → words_of e ≡ 1
  unfolding words_in
  ordinal_word Γ e k h is = one_is Γ e k h ∙ ap words_in is

  -- where a selector is tested, its words are those that are held
  abbrev pub Holds : (held words : ℕ) → Cases → Type 0
  Holds held words (Otherwise s) = Unit {0}
  Holds held words (AndCase ts s cs) = words ≡ held

  pub selects_held : (Γ : Scope) (e : Expr) (k : Kind) (cs : Cases) → ExprIn Γ e (one k) → Selects k cs → Holds 1 (words_of e) cs
  unfolding Selects
  selects_held Γ e k (Otherwise s) h sel = tt
  selects_held Γ e k (AndCase ts s cs) h sel = ordinal_word Γ e k h sel.0

  pub selects_long : (cs : Cases) {words : ℕ} → words ≡ 2 → Holds 2 words cs
  selects_long (Otherwise s) is = tt
  selects_long (AndCase ts s cs) is = is

  mutual
    unfolding StmtIn StmtsIn CasesIn

    pub keeps : (Γ : Scope) → HaveWords Γ → (s : Stmt) → StmtIn Γ s → (z d : ℕ) → depth_behind (block U z s) d ≡ d
    keeps Γ g Null h z d = refl
    keeps Γ g (Marked n s) h z d = refl
    keeps Γ g (Declare hs k) h z d = zero_left U hs (words_in k) d
    keeps Γ g (DeclareAs hs k e) h z d =
        ap (left_of (spread_code U hs (words_in k)))
        (behind (forms U z e).value (zero_left U hs (words_in k) d) (value_depth U Γ e (one k) h.3 z d ∙ ap (λ n. d + n) (one_is Γ e k h.3)))
        ∙ spread_left U hs (words_in k) d
    keeps Γ g (Assign v s e) h z d =
        stored v s e z d (path_depth U Γ s h.1 h.2 h.4 z d) (λ y n. value_depth U Γ e (one h.2) h.5 y n) (has_index s)
    keeps Γ g (Extract true ts e) h z d = extract_keeps U Γ g ts e h.2 (one (Record h.2)) (record_words Γ e h.2 h.3) h.1 h.3 h.4 z d
    keeps Γ g (Extract false ts e) h z d = extract_keeps U Γ g ts e h.3 h.3 (sizes_agree.of_expression Γ e h.3 h.4) h.1 h.4 h.5 z d
    keeps Γ g (Perform e) h z d = ap (left_of (pop_code (words_of e))) (value_depth U Γ e h.2 h.3 z d) ∙ pop_left (words_of e) d
    keeps Γ g (If e s t) h z d = refl
    keeps Γ g (Select e cs) h z d =
        behind (selected U (z + (1 + hidden_expr e)) z 1 (words_of e) cs) (value_depth U Γ e (one h.0) h.2 (z + 1) d)
        (keeps_selected Γ g 1 (words_of e) cs (selects_held Γ e h.0 cs h.2 h.3) h.4 (z + (1 + hidden_expr e)) z d)
    keeps Γ g (SelectLong e cs) h z d =
        behind (selected U (z + (2 + hidden_expr e)) z 2 (words_of e) cs) (value_depth U Γ e a_long h.1 (z + 2) d)
        (keeps_selected Γ g 2 (words_of e) cs (selects_long cs (long_is Γ e h.1)) h.3 (z + (2 + hidden_expr e)) z d)
    keeps Γ g (Block ph ss es) h z d = refl
    keeps Γ g (Repeat c l) h z d = looped z d _ l
    keeps Γ g (For v down base range l) h z d =
        behind (loop U (z + (3 + hidden_interval range)) _ l)
        (behind (Does (start_of z base range)) (bounds_depth U Γ range h.2 (z + 3) d) (start_left z base range d))
        (looped (z + (3 + hidden_interval range)) d _ l)
    keeps Γ g (Jump arms goal) h z d = refl
    keeps Γ g (ReturnWith arms first places es) h z d =
        ap (left_of (arrange_code places (sizes es) ++ i.StoreL (local_slot U first) (words_given es) ∷ []))
        (values_depth U Γ es h.2 h.5 z d) ∙ arranged_taken U places es (i.StoreL (local_slot U first) (words_given es)) d (omega arith)
    keeps Γ g (Resume places es) h z d = ap (left_of (arrange_code places (sizes es) ++ i.Resume (words_given es) ∷ []))
        (values_depth U Γ es h.1 h.5 z d) ∙ arranged_taken U places es (i.Resume (words_given es)) d (omega arith)
    keeps Γ g Reject h z d = omega arith
    keeps Γ g (Retry n) h z d = refl
    keeps Γ g (Continue n) h z d = refl

    keeps_selected : (Γ : Scope) → HaveWords Γ → (held words : ℕ) (cs : Cases) → Holds held words cs → CasesIn Γ cs → (z x d : ℕ)
        → depth_behind (selected U z x held words cs) (d + words) ≡ d
    keeps_selected Γ g held words (Otherwise s) is c z x d = behind (block U z s) (pop_left words d) (keeps Γ g s c z d)
    keeps_selected Γ g held words (AndCase ts s cs) is c z x d = omega (arith, is)

  pub keeps_all : (Γ : Scope) → HaveWords Γ → (ss : Stmts) → StmtsIn Γ ss → (z d : ℕ) → depth_behind (blocks U z ss) d ≡ d
  unfolding StmtsIn
  keeps_all Γ g NoStmts h z d = refl
  keeps_all Γ g (AndStmt s ss) h z d = behind (blocks U (z + hidden s) ss) (keeps Γ g s h.0 z d) (keeps_all Γ g ss h.1 (z + hidden s) d)
