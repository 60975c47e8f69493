-- What the next element of a list of statements, cases, labels or targets puts before the rest of its blocks.
use Rattle.std.proofs.Common.{◌≡◌, refl, sym, ap, ◌∙◌, ℕ, ◌+◌, ◌-◌, ◌<◌, ◌≤◌, List, [], ◌∷◌, ◌++◌, length, get_or, drop, map, reverse, Bool, true, false, arith}
use Rattle.std.proofs.Common.{length-drop}
use Rattle.std.proofs.lemmas.List.{drop_all}
use Rattle.mesa_base.specs.Chain.{chain}
use Rattle.mesa_types.specs.Counts.{hidden, hidden_cases, hidden_exits, hidden_stmts, hidden_suffixes, hidden_targets, hidden_tests}
use Rattle.mesa_types.specs.Plain.{case, exit, stmt, stmts, suffix, target, target_by, test}
use Rattle.mesa_types.specs.Typed as t
use Rattle.mesa_types.specs.declared.typed_parts.Conversion.{Conversion}
use Rattle.mesa_types.specs.declared.typed_parts.Home.{Home}
use Rattle.mesa_types.specs.declared.typed_parts.Part.{Part}
use Rattle.mesa_types.specs.declared.typed_parts.Range.{Range}
use Rattle.mesa_types.specs.declared.typed_tree.Case.{Case}
use Rattle.mesa_types.specs.declared.typed_tree.Exit.{Exit}
use Rattle.mesa_types.specs.declared.typed_tree.Target.{Target}
use Rattle.mesa_types.specs.declared.typed_tree.TypedStmt.{TypedStmt}
use Rattle.code_rules.specs.CodeFor.{words_over, words_taken}
use Rattle.code_rules.specs.OwnCode.{pop_code}
use Rattle.code_rules.specs.Reading.{Coded}
use Rattle.code_blocks.specs.Blocks.{Block, Both, Does, nothing}
use Rattle.code_blocks.specs.Sizes.{size}
use Rattle.code_blocks.specs.Translation as spec
use Rattle.code_trees.specs.Excess.{excess, excess_in}
use Rattle.code_trees.specs.Forms.{case_blocks, case_of, exit_blocks, goes_on, target_of}
use Rattle.code_trees.specs.Plain.{in_order}
use Rattle.code_trees.specs.Rows.{excess_among, sizes_in}
use Rattle.code_counts.proofs.WordLaws.{hidden_given}
use Rattle.code_trees.proofs.StatementSplits.{cases_split, exits_split, stmts_split, targets_split}
use Rattle.code_trees.proofs.CaseLaws.{on_left}
use Rattle.code_trees.proofs.TargetLaws.{first_target, newest, no_path}
use Rattle.code_bodies.proofs.RowWalks.{first_more, first_small, firsts_fit, firsts_more, firsts_small, item_more, item_small, none_more}

-- statements

module _ (ss : List TypedStmt) (i : ℕ) (x : TypedStmt) (lt : i < length ss) (is : x ≡ get_or ss i x) where
  pub stmts_next : (P : Coded) (z after : ℕ) → after ≡ z + hidden (stmt x)
      → spec.blocks P z (stmts (map stmt (drop i ss))) ≡ Both (spec.block P z (stmt x)) (spec.blocks P after (stmts (map stmt (drop (i + 1) ss))))
  stmts_next P z after is_after =
      ap (spec.blocks P z) (stmts_split ss i x lt is)
      ∙ ap (λ n. Both (spec.block P z (stmt x)) (spec.blocks P n (stmts (map stmt (drop (i + 1) ss))))) (sym is_after)

  pub stmts_hidden : hidden_stmts (stmts (map stmt (drop i ss))) ≡ hidden (stmt x) + hidden_stmts (stmts (map stmt (drop (i + 1) ss)))
  unfolding hidden_stmts
  stmts_hidden = ap hidden_stmts (stmts_split ss i x lt is)

module _ (P : Coded) (begin : ℕ) (ss : List TypedStmt) (i : ℕ) (x : TypedStmt) (bs : List Block) (now : ℕ) (lt : i < length ss)
    (is : x ≡ get_or ss i x)
    (so_far : in_order bs (spec.blocks P now (stmts (map stmt (drop i ss)))) ≡ spec.blocks P begin (stmts (map stmt ss)))
    (fit : excess (spec.blocks P begin (stmts (map stmt ss))) ≡ 0) where
  pub stmt_small : (held : List Block) (made : Block) → held ≡ bs → made ≡ spec.block P now (stmt x) → sizes_in held + size made ≤ 4294967295
  stmt_small held made same is_made = first_small _ _ _ _ _ so_far (stmts_next ss i x lt is P now (now + hidden (stmt x)) refl) fit held made same
      is_made

  pub stmt_more : (after : ℕ) (held new : List Block) (made : Block) → after ≡ now + hidden (stmt x) → held ≡ bs → made ≡ spec.block P now (stmt x)
      → new ≡ held ++ made ∷ [] → in_order new (spec.blocks P after (stmts (map stmt (drop (i + 1) ss)))) ≡ spec.blocks P begin (stmts (map stmt ss))
  stmt_more after held new made is_after same is_made is_new = first_more _ _ _ _ _ so_far (stmts_next ss i x lt is P now after is_after) fit held new
      made same is_made is_new

module _ (P : Coded) (begin : ℕ) (ss : List TypedStmt) (i : ℕ) (bs : List Block) (now : ℕ) (past : length ss ≤ i) where
  pub stmts_end_is : in_order bs (spec.blocks P now (stmts (map stmt (drop i ss)))) ≡ spec.blocks P begin (stmts (map stmt ss)) → in_order bs nothing
      ≡ spec.blocks P begin (stmts (map stmt ss))
  stmts_end_is so_far = ap (λ l. in_order bs (spec.blocks P now (stmts (map stmt l)))) (sym (drop_all i ss past)) ∙ so_far

  pub stmts_end_hidden : hidden_stmts (stmts (map stmt (drop i ss))) ≡ 0
  unfolding hidden_stmts
  stmts_end_hidden = ap (λ l. hidden_stmts (stmts (map stmt l))) (drop_all i ss past)

-- cases

module _ (cs : List Case) (i : ℕ) (x : Case) (lt : i < length cs) (is : x ≡ get_or cs i x) where
  pub cases_next : (P : Coded) (z after slot : ℕ) (passes jumps : Bool)
      → after ≡ z + (hidden_tests (chain (map test x.tests) t.NoTests) + hidden (stmt x.body))
      → jumps ≡ goes_on passes (chain (map case (drop (i + 1) cs)) (t.Otherwise t.Null))
      → case_blocks P z slot passes (chain (map case (drop i cs)) (t.Otherwise t.Null))
      ≡ case_of P z slot (chain (map test x.tests) t.NoTests) (stmt x.body) jumps ∷ case_blocks P after slot passes
      (chain (map case (drop (i + 1) cs)) (t.Otherwise t.Null))
  unfolding case_blocks
  cases_next P z after slot passes jumps is_after is_jumps =
      let ts : t.Tests = chain (map test x.tests) t.NoTests in
      let rest : t.Cases = chain (map case (drop (i + 1) cs)) (t.Otherwise t.Null) in
      ap (case_blocks P z slot passes) (cases_split cs i x (t.Otherwise t.Null) lt is)
      ∙ ap (λ b. case_of P z slot ts (stmt x.body) b ∷ case_blocks P (z + (hidden_tests ts + hidden (stmt x.body))) slot passes rest) (sym is_jumps)
      ∙ ap (λ n. case_of P z slot ts (stmt x.body) jumps ∷ case_blocks P n slot passes rest) (sym is_after)

  pub cases_hidden : hidden_cases (chain (map case (drop i cs)) (t.Otherwise t.Null))
      ≡ hidden_tests (chain (map test x.tests) t.NoTests) + hidden (stmt x.body) + hidden_cases (chain (map case (drop (i + 1) cs))
      (t.Otherwise t.Null))
  unfolding hidden_cases
  cases_hidden = ap hidden_cases (cases_split cs i x (t.Otherwise t.Null) lt is)

module _ (P : Coded) (begin slot : ℕ) (passes jumps : Bool) (cs : List Case) (i : ℕ) (x : Case) (bs : List Block) (now : ℕ)
    (lt : i < length cs) (is : x ≡ get_or cs i x)
    (so_far : bs ++ case_blocks P now slot passes (chain (map case (drop i cs)) (t.Otherwise t.Null)) ≡ case_blocks P begin slot passes
    (chain (map case cs) (t.Otherwise t.Null)))
    (is_jumps : jumps ≡ goes_on passes (chain (map case (drop (i + 1) cs)) (t.Otherwise t.Null))) where
  a_case : (after : ℕ) → after ≡ now + (hidden_tests (chain (map test x.tests) t.NoTests) + hidden (stmt x.body))
      → case_blocks P now slot passes (chain (map case (drop i cs)) (t.Otherwise t.Null))
      ≡ case_of P now slot (chain (map test x.tests) t.NoTests) (stmt x.body) jumps ∷ case_blocks P after slot passes
      (chain (map case (drop (i + 1) cs)) (t.Otherwise t.Null))
  a_case after is_after =
      cases_next cs i x lt is P now after slot passes jumps is_after is_jumps

  pub case_small : sizes_in (case_blocks P begin slot passes (chain (map case cs) (t.Otherwise t.Null))) ≤ 4294967295
      → (held : List Block) (made : Block) → held ≡ bs → made ≡ case_of P now slot (chain (map test x.tests) t.NoTests) (stmt x.body) jumps
      → sizes_in held + size made ≤ 4294967295
  case_small small held made same is_made = item_small _ _ _ _ _ so_far (a_case _ refl) small held made same is_made

  pub case_more : (after : ℕ) (held new : List Block) (made : Block) → after ≡ now + (hidden_tests (chain (map test x.tests) t.NoTests) + hidden
      (stmt x.body))
      → held ≡ bs → made ≡ case_of P now slot (chain (map test x.tests) t.NoTests) (stmt x.body) jumps → new ≡ held ++ made ∷ []
      → new ++ case_blocks P after slot passes (chain (map case (drop (i + 1) cs)) (t.Otherwise t.Null)) ≡ case_blocks P begin slot passes
      (chain (map case cs) (t.Otherwise t.Null))
  case_more after held new made is_after same is_made is_new = item_more _ _ _ _ _ so_far (a_case after is_after) held new made same is_made is_new

module _ (P : Coded) (begin slot : ℕ) (passes : Bool) (cs : List Case) (i : ℕ) (bs : List Block) (now : ℕ) (past : length cs ≤ i) where
  pub cases_end_is : bs ++ case_blocks P now slot passes (chain (map case (drop i cs)) (t.Otherwise t.Null)) ≡ case_blocks P begin slot passes
      (chain (map case cs) (t.Otherwise t.Null))
      → bs ≡ case_blocks P begin slot passes (chain (map case cs) (t.Otherwise t.Null))
  unfolding case_blocks
  cases_end_is so_far = none_more bs _ _ so_far (ap (λ l. case_blocks P now slot passes (chain (map case l) (t.Otherwise t.Null)))
      (drop_all i cs past))

  pub cases_end_hidden : hidden_cases (chain (map case (drop i cs)) (t.Otherwise t.Null)) ≡ 0
  unfolding hidden_cases
  cases_end_hidden = ap (λ l. hidden_cases (chain (map case l) (t.Otherwise t.Null))) (drop_all i cs past)

-- the statements of labels

module _ (es : List Exit) (i : ℕ) (x : Exit) (lt : i < length es) (is : x ≡ get_or es i x) where
  pub exits_next : (P : Coded) (z after : ℕ) → after ≡ z + hidden (stmt x.body)
      → exit_blocks P z (chain (map exit (drop i es)) t.NoExits) ≡ spec.block P z (stmt x.body) ∷ exit_blocks P after
      (chain (map exit (drop (i + 1) es)) t.NoExits)
  unfolding exit_blocks
  exits_next P z after is_after =
      ap (exit_blocks P z) (exits_split es i x lt is)
      ∙ ap (λ n. spec.block P z (stmt x.body) ∷ exit_blocks P n (chain (map exit (drop (i + 1) es)) t.NoExits)) (sym is_after)

  pub exits_hidden : hidden_exits (chain (map exit (drop i es)) t.NoExits) ≡ hidden (stmt x.body) + hidden_exits (chain (map exit (drop (i + 1) es))
      t.NoExits)
  unfolding hidden_exits
  exits_hidden = ap hidden_exits (exits_split es i x lt is)

module _ (P : Coded) (begin : ℕ) (es : List Exit) (i : ℕ) (x : Exit) (bs : List Block) (now : ℕ) (lt : i < length es) (is : x ≡ get_or es i x)
    (so_far : bs ++ exit_blocks P now (chain (map exit (drop i es)) t.NoExits) ≡ exit_blocks P begin (chain (map exit es) t.NoExits)) where
  pub exit_more : (after : ℕ) (held new : List Block) (made : Block) → after ≡ now + hidden (stmt x.body) → held ≡ bs → made ≡ spec.block P now
      (stmt x.body)
      → new ≡ held ++ made ∷ [] → new ++ exit_blocks P after (chain (map exit (drop (i + 1) es)) t.NoExits) ≡ exit_blocks P begin
      (chain (map exit es) t.NoExits)
  exit_more after held new made is_after same is_made is_new = item_more _ _ _ _ _ so_far (exits_next es i x lt is P now after is_after) held new made
      same is_made is_new

module _ (P : Coded) (begin : ℕ) (es : List Exit) (i : ℕ) (bs : List Block) (now : ℕ) (past : length es ≤ i) where
  pub exits_end_is : bs ++ exit_blocks P now (chain (map exit (drop i es)) t.NoExits) ≡ exit_blocks P begin (chain (map exit es) t.NoExits)
      → bs ≡ exit_blocks P begin (chain (map exit es) t.NoExits)
  unfolding exit_blocks
  exits_end_is so_far = none_more bs _ _ so_far (ap (λ l. exit_blocks P now (chain (map exit l) t.NoExits)) (drop_all i es past))

  pub exits_end_hidden : hidden_exits (chain (map exit (drop i es)) t.NoExits) ≡ 0
  unfolding hidden_exits
  exits_end_hidden = ap (λ l. hidden_exits (chain (map exit l) t.NoExits)) (drop_all i es past)

-- targets

target_next : (P : Coded) (z after words : ℕ) (taken : List Part) (p : Part) (h : Home) (s : t.Suffixes) (c : Conversion) (r : Range) (tail : t.Targets)
    → after ≡ z + hidden_suffixes s
    → spec.targets P z words taken (target_by c r p h s tail)
    ≡ in_order (target_of P (words_over words taken p) p h s c r (spec.path P z s)) (spec.targets P after words (p ∷ taken) tail)
target_next P z after words taken p h s c r tail is_after =
    first_target P z words taken p h s c r tail
    ∙ ap (λ n. in_order (target_of P (words_over words taken p) p h s c r (spec.path P z s)) (spec.targets P n words (p ∷ taken) tail)) (sym is_after)

module _ (ts : List Target) (i : ℕ) (x : Target) (lt : i < length ts) (is : x ≡ get_or ts i x) where
  pub targets_next : (P : Coded) (z after words : ℕ) (taken : List Part) → after ≡ z + hidden_suffixes (chain (map suffix x.suffixes) t.NoSuffix)
      → spec.targets P z words taken (chain (map target (drop i ts)) t.NoTargets)
      ≡ in_order
      (target_of P (words_over words taken x.part) x.part x.home (chain (map suffix x.suffixes) t.NoSuffix) x.conversion x.check
      (spec.path P z (chain (map suffix x.suffixes) t.NoSuffix)))
      (spec.targets P after words (x.part ∷ taken) (chain (map target (drop (i + 1) ts)) t.NoTargets))
  targets_next P z after words taken is_after =
      ap (spec.targets P z words taken) (targets_split ts i x lt is)
      ∙ target_next P z after words taken x.part x.home (chain (map suffix x.suffixes) t.NoSuffix) x.conversion x.check (chain (map target (drop (i + 1) ts))
      t.NoTargets) is_after

  pub targets_hidden : hidden_targets (chain (map target (drop i ts)) t.NoTargets)
      ≡ hidden_suffixes (chain (map suffix x.suffixes) t.NoSuffix) + hidden_targets (chain (map target (drop (i + 1) ts)) t.NoTargets)
  unfolding hidden_targets
  targets_hidden = ap hidden_targets (targets_split ts i x lt is)
      ∙ hidden_given x.conversion x.check x.part x.home (chain (map suffix x.suffixes) t.NoSuffix) (chain (map target (drop (i + 1) ts)) t.NoTargets)

-- the path of a target has no code where it has no index

path_fits_by : (P : Coded) (z over : ℕ) (p : Part) (h : Home) (s : t.Suffixes) (c : Conversion) (r : Range) (b : Bool) → spec.has_index s ≡ b
    → excess_among (target_of P over p h s c r (spec.path P z s)) ≡ 0 → excess (spec.path P z s) ≡ 0
unfolding excess excess_in excess_among
path_fits_by P z over p h s c r true is fit = let same = rw is at fit in omega (arith, same)
path_fits_by P z over p h s c r false is fit = ap excess (no_path P z s is)

pub target_path_fits : (P : Coded) (z over : ℕ) (p : Part) (h : Home) (s : t.Suffixes) (c : Conversion) (r : Range)
    → excess_among (target_of P over p h s c r (spec.path P z s)) ≡ 0 → excess (spec.path P z s) ≡ 0
target_path_fits P z over p h s c r fit = path_fits_by P z over p h s c r (spec.has_index s) refl fit

module _ (P : Coded) (begin words : ℕ) (ts : List Target) (i : ℕ) (x : Target) (bs : List Block) (taken : List Part) (now : ℕ)
    (lt : i < length ts) (is : x ≡ get_or ts i x)
    (so_far : in_order bs (spec.targets P now words (reverse taken) (chain (map target (drop i ts)) t.NoTargets)) ≡ spec.targets P begin words []
    (chain (map target ts) t.NoTargets))
    (fit : excess (spec.targets P begin words [] (chain (map target ts) t.NoTargets)) ≡ 0) where
  among : excess_among (target_of P (words_over words (reverse taken) x.part) x.part x.home (chain (map suffix x.suffixes) t.NoSuffix) x.conversion x.check
      (spec.path P now (chain (map suffix x.suffixes) t.NoSuffix))) ≡ 0
  among = firsts_fit _ _ _ _ _ so_far (targets_next ts i x lt is P now _ words (reverse taken) refl) fit

  pub way_fits : excess (spec.path P now (chain (map suffix x.suffixes) t.NoSuffix)) ≡ 0
  way_fits = target_path_fits P now _ x.part x.home (chain (map suffix x.suffixes) t.NoSuffix) x.conversion x.check among

  pub target_fits : (old : List Part) (way : Block) → old ≡ taken → way ≡ spec.path P now (chain (map suffix x.suffixes) t.NoSuffix)
      → excess_among (target_of P (words_over words (reverse old) x.part) x.part x.home (chain (map suffix x.suffixes) t.NoSuffix) x.conversion x.check way) ≡ 0
  target_fits old way same is_way =
      ap (λ l. excess_among (target_of P (words_over words (reverse l) x.part) x.part x.home (chain (map suffix x.suffixes) t.NoSuffix) x.conversion x.check way))
      same
      ∙ ap (λ b. excess_among (target_of P (words_over words (reverse taken) x.part) x.part x.home (chain (map suffix x.suffixes) t.NoSuffix) x.conversion x.check
      b)) is_way
      ∙ among

  pub target_small : (held : List Block) (old : List Part) (way : Block) → held ≡ bs → old ≡ taken → way ≡ spec.path P now
      (chain (map suffix x.suffixes) t.NoSuffix)
      → sizes_in held + sizes_in (target_of P (words_over words (reverse old) x.part) x.part x.home (chain (map suffix x.suffixes) t.NoSuffix) x.conversion x.check
      way) ≤ 4294967295
  target_small held old way same_held same is_way =
      let small : sizes_in bs + sizes_in (target_of P (words_over words (reverse taken) x.part) x.part x.home
      (chain (map suffix x.suffixes) t.NoSuffix) x.conversion x.check (spec.path P now (chain (map suffix x.suffixes) t.NoSuffix))) ≤ 4294967295
      = firsts_small _ _ _ _ _ so_far (targets_next ts i x lt is P now (now + hidden_suffixes (chain (map suffix x.suffixes) t.NoSuffix)) words
      (reverse taken) refl) fit in
      let blocks : sizes_in (target_of P (words_over words (reverse old) x.part) x.part x.home (chain (map suffix x.suffixes) t.NoSuffix) x.conversion x.check way)
      ≡ sizes_in (target_of P (words_over words (reverse taken) x.part) x.part x.home (chain (map suffix x.suffixes) t.NoSuffix) x.conversion x.check
      (spec.path P now (chain (map suffix x.suffixes) t.NoSuffix)))
      = ap (λ l. sizes_in (target_of P (words_over words (reverse l) x.part) x.part x.home (chain (map suffix x.suffixes) t.NoSuffix) x.conversion x.check way))
      same
      ∙ ap (λ b. sizes_in (target_of P (words_over words (reverse taken) x.part) x.part x.home (chain (map suffix x.suffixes) t.NoSuffix) x.conversion x.check b))
      is_way in
      omega (arith, small, blocks, ap sizes_in same_held)

  pub target_more : (after : ℕ) (held new : List Block) (old longer : List Part) (way : Block)
      → after ≡ now + hidden_suffixes (chain (map suffix x.suffixes) t.NoSuffix) → held ≡ bs → old ≡ taken → way ≡ spec.path P now
      (chain (map suffix x.suffixes) t.NoSuffix)
      → new ≡ held ++ target_of P (words_over words (reverse old) x.part) x.part x.home (chain (map suffix x.suffixes) t.NoSuffix) x.conversion x.check way
      → longer ≡ old ++ x.part ∷ []
      → in_order new (spec.targets P after words (reverse longer) (chain (map target (drop (i + 1) ts)) t.NoTargets)) ≡ spec.targets P begin words []
      (chain (map target ts) t.NoTargets)
  target_more after held new old longer way is_after same_held same is_way is_new is_longer =
      let turned : reverse longer ≡ x.part ∷ reverse taken
      = ap reverse (is_longer ∙ ap (λ l. l ++ x.part ∷ []) same) ∙ newest taken x.part in
      ap (λ l. in_order new (spec.targets P after words l (chain (map target (drop (i + 1) ts)) t.NoTargets))) turned
      ∙ firsts_more _ _ _ _ _ so_far (targets_next ts i x lt is P now after words (reverse taken) is_after) fit new
      (is_new
      ∙ ap (λ l. l ++ target_of P (words_over words (reverse old) x.part) x.part x.home (chain (map suffix x.suffixes) t.NoSuffix) x.conversion x.check way)
      same_held
      ∙ ap (λ l. bs ++ target_of P (words_over words (reverse l) x.part) x.part x.home (chain (map suffix x.suffixes) t.NoSuffix) x.conversion x.check way) same
      ∙ ap (λ b. bs ++ target_of P (words_over words (reverse taken) x.part) x.part x.home (chain (map suffix x.suffixes) t.NoSuffix) x.conversion x.check b)
      is_way)

module _ (P : Coded) (begin words : ℕ) (ts : List Target) (i : ℕ) (bs : List Block) (taken : List Part) (now : ℕ) (past : length ts ≤ i)
    (so_far : in_order bs (spec.targets P now words (reverse taken) (chain (map target (drop i ts)) t.NoTargets)) ≡ spec.targets P begin words []
    (chain (map target ts) t.NoTargets)) where
  pub targets_end_is : in_order bs (Does (pop_code (words - words_taken (reverse taken)))) ≡ spec.targets P begin words []
      (chain (map target ts) t.NoTargets)
  targets_end_is = ap (λ l. in_order bs (spec.targets P now words (reverse taken) (chain (map target l) t.NoTargets))) (sym (drop_all i ts past))
      ∙ so_far

  pub targets_end_hidden : hidden_targets (chain (map target (drop i ts)) t.NoTargets) ≡ 0
  unfolding hidden_targets
  targets_end_hidden = ap (λ l. hidden_targets (chain (map target l) t.NoTargets)) (drop_all i ts past)

-- whether there are more cases at a place
pub cases_go_on : (cs : List Case) (at : ℕ) (passes more : Bool) → (length cs ≤ at → more ≡ passes) → (at < length cs → more ≡ true)
    → more ≡ goes_on passes (chain (map case (drop at cs)) (t.Otherwise t.Null))
cases_go_on cs at passes more last others =
    on_left (drop at cs) (length (drop at cs)) passes more refl (λ h. last (omega (arith, length-drop at cs, h)))
    (λ h. others (omega (arith, length-drop at cs, h)))

pub cases_last : (cs : List Case) (at : ℕ) (passes : Bool) → length cs ≤ at → goes_on passes (chain (map case (drop at cs)) (t.Otherwise t.Null))
    ≡ passes
cases_last cs at passes h = sym (cases_go_on cs at passes passes (λ _. refl) (λ g. absurd (omega (arith, g, h))))

pub cases_more : (cs : List Case) (at : ℕ) (passes : Bool) → at < length cs → goes_on passes (chain (map case (drop at cs)) (t.Otherwise t.Null))
    ≡ true
cases_more cs at passes h = sym (cases_go_on cs at passes true (λ g. absurd (omega (arith, g, h))) (λ _. refl))
