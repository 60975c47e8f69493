-- The rows of the law of operators for the instructions by themselves.
use Rattle.std.proofs.Common.{◌≡◌, ℕ, zero, suc, ◌+◌, ◌<◌, ◌≤◌, List, [], ◌∷◌, ◌++◌, length, Bool, true, false, refl, sym, ap, ◌∙◌, subst, arith}
use Rattle.std.specs.Prelude.{nat_le, take, drop}
use Rattle.std.proofs.lemmas.List.{take-append-drop}
use Rattle.std.proofs.lemmas.Bool.Decides.{nat_tests}
use Rattle.mesa_types.specs.declared.typed_parts.Home.{Home}
use Rattle.mesa_types.specs.declared.typed_parts.Home.TheVariants.{Global, Local}
use Rattle.mesa_types.specs.Typed.{Kind, Kinds, NoKinds, AndKind}
use Rattle.mesa_types.specs.Shapes.{words_in_all, one, words_in, words_before, KindAt}
use Rattle.source_meaning.specs.Value.{NoValues, AndValue, Value, Values, nth, part_at}
use Rattle.source_meaning.specs.Value as value
use Rattle.code_forms.specs.declared.instruction.Instruction.TheVariants.{Str, LoadL, LoadG, LoadLX, LoadGX}
use Rattle.machine_rules.specs.Words.{words_at, push, popped, under}
use Rattle.machine_rules.specs.Working.{Work, Works, leaves, in_bounds, works}
use Rattle.code_rules.specs.OwnCode.{pop_code, lift_code, drop_code, field_code}
use Rattle.code_rules.specs.Reading.{Coded, scratch}
use Rattle.code_rules.specs.Slots.{words_at as words_of_kind, local_slot, global_slot, load, load_within}
use Rattle.agreement_rules.specs.Layout.{values_at, Strings, slots_of, value_at, Show}
use Rattle.agreement_rules.specs.Own.{Done, Did, go_on, works_all, Given, Comes, Does}
use Rattle.agreement_rules.specs.Operators.{PathAt, VariableOf, value_of, Lies, OwnCodeDoes}
use Rattle.agreement_rules.proofs.Memory.{length_both, take_long, take_slots, drop_slots, push_both, under_all, popped_all}
use Rattle.agreement_rules.proofs.Values.{value_same, small_words, kind_within, nth_value, path_value, path_within, read_shows, two_show}
use Rattle.agreement_rules.proofs.Leaves.{work, same_kept, operator_does, relation_does}
use Rattle.agreement_rules.proofs.Intervals.{and_then, works_both, within_does, number_does, negation_does, complement_does, length_does, byte_does, check_does, index_does}
use Rattle.agreement_rules.proofs.LongLeaves.{long_does, conversion_does, long_operator_does, long_negation_does, long_relation_does}
use Rattle.agreement_rules.proofs.LongIntervals.{long_within_does}

module _ (texts : Strings) (number : ℕ) (vs gs : List ℕ) where
  -- Words of the operand stack.

  pub pop_works : (c ops : List ℕ) → works_all texts number (pop_code (length c)) (work (push c ops) vs gs) ≡ Did (work ops vs gs)
  unfolding works_all works go_on leaves
  pop_works [] ops = refl
  pop_works (x ∷ c) ops = ap (λ l. Did (work l vs gs)) (under_all (x ∷ c) ops)

  pub roll_is : (b c s : List ℕ)
      → push (popped (length b) (under (length c) (push c (push b s)))) (push (popped (length c) (push c (push b s))) (under (length b) (under (length c) (push c (push b s)))))
      ≡ push b (push c s)
  roll_is b c s =
      ap (λ l. push (popped (length b) l) (push (popped (length c) (push c (push b s))) (under (length b) l))) (under_all c (push b s))
      ∙ ap (λ l. push l (push (popped (length c) (push c (push b s))) (under (length b) (push b s)))) (popped_all b s)
      ∙ ap (λ l. push b (push l (under (length b) (push b s)))) (popped_all c (push b s))
      ∙ ap (λ l. push b (push c l)) (under_all b s)

  pub lift_works : (b c s : List ℕ) → works_all texts number (lift_code (length b) (length c)) (work (push c (push b s)) vs gs) ≡ Did (work (push b (push c s)) vs gs)
  unfolding works_all works go_on leaves
  lift_works b [] s = refl
  lift_works b (x ∷ c) s = ap (λ l. Did (work l vs gs)) (roll_is b (x ∷ c) s)

  drop_works : (b c s : List ℕ) → works_all texts number (drop_code (length b) (length c)) (work (push c (push b s)) vs gs) ≡ Did (work (push c s) vs gs)
  unfolding works_all and_then
  drop_works [] c s = refl
  drop_works (x ∷ b) c s =
      works_both texts number (lift_code (length (x ∷ b)) (length c)) (pop_code (length (x ∷ b))) (work (push c (push (x ∷ b) s)) vs gs)
      ∙ ap (λ w. and_then w (works_all texts number (pop_code (length (x ∷ b))))) (lift_works (x ∷ b) c s)
      ∙ pop_works (x ∷ b) (push c s)

  field_works : (before part after ops : List ℕ)
      → works_all texts number (field_code (length before) (length part) (length after)) (work (push (before ++ (part ++ after)) ops) vs gs) ≡ Did (work (push part ops) vs gs)
  unfolding and_then
  field_works before part after ops =
      ap (λ l. works_all texts number (field_code (length before) (length part) (length after)) (work l vs gs)) (push_both before (part ++ after) ops ∙ push_both part after (push before ops))
      ∙ works_both texts number (pop_code (length after)) (drop_code (length before) (length part)) (work (push after (push part (push before ops))) vs gs)
      ∙ ap (λ w. and_then w (works_all texts number (drop_code (length before) (length part)))) (pop_works after (push part (push before ops)))
      ∙ drop_works before part ops

module _ (texts : Strings) (number t : ℕ) (vs gs : List ℕ) where
  pub comes : (rest ws : List ℕ) (x : Done) → x ≡ Did (work (push ws rest) vs gs) → Comes t rest vs gs (Given ws) x
  unfolding Comes
  comes rest ws x e = subst (λ y. Comes t rest vs gs (Given ws) y) (sym e) (refl, same_kept t vs, refl)

  field_does : (before part after : List ℕ)
      → Does texts number t vs gs (field_code (length before) (length part) (length after)) (before ++ (part ++ after)) (Given part)
  field_does before part after rest = comes rest part _ (field_works texts number vs gs before part after rest)

  literal_does : (k : ℕ) → Does texts number t vs gs (Str (suc k) ∷ []) [] (Given (suc number ∷ suc k ∷ []))
  unfolding works_all works go_on leaves
  literal_does k rest = comes rest (suc number ∷ suc k ∷ []) _ refl

  in_reach : (b : Bool) (before w : Work) → b ≡ true → go_on before (in_bounds b (Works w)) (works_all texts number []) ≡ Did w
  unfolding go_on in_bounds works_all
  in_reach true before w e = refl
  in_reach false before w e = absurd (let z : ⊥ = cc in z)

  load_does : (s n : ℕ) → Does texts number t vs gs (LoadL s n ∷ []) [] (Given (words_at vs s n))
  unfolding works_all works go_on leaves
  load_does s n rest = comes rest (words_at vs s n) _ refl

  load_global_does : (s n : ℕ) → Does texts number t vs gs (LoadG s n ∷ []) [] (Given (words_at gs s n))
  unfolding works_all works go_on leaves
  load_global_does s n rest = comes rest (words_at gs s n) _ refl

  load_within_does : (s x d n : ℕ) → d + n ≤ x → Does texts number t vs gs (LoadLX s x n ∷ []) (d ∷ []) (Given (words_at vs (s + d) n))
  unfolding works_all works leaves
  load_within_does s x d n le rest = let e : nat_le (d + n) x ≡ true = grind (arith, nat_tests) in
      comes rest (words_at vs (s + d) n) _ (in_reach (nat_le (d + n) x) (work (d ∷ rest) vs gs) (work (push (words_at vs (s + d) n) rest) vs gs) e)

  load_global_within_does : (s x d n : ℕ) → d + n ≤ x → Does texts number t vs gs (LoadGX s x n ∷ []) (d ∷ []) (Given (words_at gs (s + d) n))
  unfolding works_all works leaves
  load_global_within_does s x d n le rest = let e : nat_le (d + n) x ≡ true = grind (arith, nat_tests) in
      comes rest (words_at gs (s + d) n) _ (in_reach (nat_le (d + n) x) (work (d ∷ rest) vs gs) (work (push (words_at gs (s + d) n) rest) vs gs) e)

size_there : (ks : Kinds) (n : ℕ) (k : Kind) → KindAt ks n k → words_of_kind ks n ≡ words_in k
unfolding KindAt
size_there NoKinds n k h = absurd h
size_there (AndKind j ks) zero k h = ap words_in h
size_there (AndKind j ks) (suc n) k h = size_there ks n k h

-- the words of a part of a variable
part_shows : (texts : Strings) (ks : Kinds) (values : Values) (words : List ℕ) (n : ℕ) (j k : Kind) (path : List ℕ) (d : ℕ)
    → Lies texts ks values words → KindAt ks n j → PathAt path j k d
    → Show texts (one k) (value.one (part_at path (nth values n))) (words_at words (words_before ks n + d) (words_in k))
part_shows texts ks values words n j k path d lies at leads =
    let b = words_before ks n in
    let e : nth values n ≡ value_at texts (slots_of words) (0 + b) j = ap (λ us. nth us n) lies.worth ∙ nth_value texts (slots_of words) 0 ks n j at in
    let f : part_at path (nth values n) ≡ value_at texts (slots_of words) (b + d) k =
    ap (λ v. part_at path v) e ∙ path_value texts (slots_of words) (0 + b) path j k d leads ∙ ap (λ s. value_at texts (slots_of words) s k) (omega arith) in
    subst (λ v. Show texts (one k) (value.one v) (words_at words (b + d) (words_in k))) (sym f)
    (read_shows texts words (b + d) k (λ i lt. let x = kind_within ks n j at in let y = path_within path j k d leads in lies.small ((b + d) + i) (omega (arith, lt, x, y))))

part_does : (texts : Strings) (number : ℕ) (P : Coded) (vs gs : List ℕ) (frame instance : Values) (h : Home) (j k : Kind) (path : List ℕ) (d : ℕ)
    → Lies texts P.locals frame vs → Lies texts P.globals instance gs → VariableOf P h j → PathAt path j k d → (ws : List ℕ)
    × Show texts (one k) (value.one (part_at path (value_of frame instance h))) ws
    × Does texts number (scratch P) vs gs (load P h d (words_in k) ∷ []) [] (Given ws)
    × Does texts number (scratch P) vs gs (load_within P h (words_in k) ∷ []) (d ∷ []) (Given ws)
part_does texts number P vs gs frame instance (Local n) j k path d here there at leads =
    let le : d + words_in k ≤ words_of_kind P.locals n = let x = path_within path j k d leads in omega (arith, size_there P.locals n j at, x) in (
      words_at vs (local_slot P n + d) (words_in k),
      part_shows texts P.locals frame vs n j k path d here at leads,
      load_does texts number (scratch P) vs gs (local_slot P n + d) (words_in k),
      load_within_does texts number (scratch P) vs gs (local_slot P n) (words_of_kind P.locals n) d (words_in k) le,
    )
part_does texts number P vs gs frame instance (Global n) j k path d here there at leads =
    let le : d + words_in k ≤ words_of_kind P.globals n = let x = path_within path j k d leads in omega (arith, size_there P.globals n j at, x) in (
      words_at gs (global_slot P n + d) (words_in k),
      part_shows texts P.globals instance gs n j k path d there at leads,
      load_global_does texts number (scratch P) vs gs (global_slot P n + d) (words_in k),
      load_global_within_does texts number (scratch P) vs gs (global_slot P n) (words_of_kind P.globals n) d (words_in k) le,
    )

-- of a value on the operand stack, the part along a path
part_of_value : (texts : Strings) (number t : ℕ) (vs gs : List ℕ) (v : Value) (j k : Kind) (path : List ℕ) (d after : ℕ) (ws : List ℕ)
    → Show texts (one j) (value.one v) ws → PathAt path j k d → d + words_in k + after ≡ words_in j
    → (us : List ℕ) × Show texts (one k) (value.one (part_at path v)) us × Does texts number t vs gs (field_code d (words_in k) after) ws (Given us)
unfolding one value.one values_at nth words_in_all
part_of_value texts number t vs gs v j k path d after ws h leads e =
    let first = take d ws in
    let behind = drop d ws in
    let us = take (words_in k) behind in
    let last = drop (words_in k) behind in
    let a : first ++ behind ≡ ws = take-append-drop d ws in
    let b : us ++ last ≡ behind = take-append-drop (words_in k) behind in
    let size : length ws ≡ words_in j + 0 = h.size in
    let n1 : length first ≡ d = take_long d ws (omega (arith, size, e)) in
    let l1 : length first + length behind ≡ length ws = sym (length_both first behind) ∙ ap (λ (l : List ℕ). length l) a in
    let n2 : length us ≡ words_in k = take_long (words_in k) behind (omega (arith, size, e, n1, l1)) in
    let l2 : length us + length last ≡ length behind = sym (length_both us last) ∙ ap (λ (l : List ℕ). length l) b in
    let n3 : length last ≡ after = omega (arith, size, e, n1, l1, n2, l2) in
    let whole : first ++ (us ++ last) ≡ ws = ap (λ l. first ++ l) b ∙ a in
    let same : (i : ℕ) → i < words_in k → slots_of us i ≡ slots_of ws (d + i) = λ i lt. take_slots (words_in k) behind i lt ∙ drop_slots d ws i in
    let worth : v ≡ value_at texts (slots_of ws) 0 j = ap (λ us. nth us 0) h.worth in
    let part : part_at path v ≡ value_at texts (slots_of us) 0 k =
    ap (λ x. part_at path x) worth ∙ path_value texts (slots_of ws) 0 path j k d leads
    ∙ value_same texts (slots_of ws) (slots_of us) (0 + d) 0 k (λ i lt.
    ap (λ x. slots_of ws x) (omega arith) ∙ sym (same i lt) ∙ ap (λ x. slots_of us x) (omega arith)) in
    let shows : Show texts (one k) (value.one (part_at path v)) us = record {
      size = n2 ∙ omega arith;
      worth = ap (λ x. AndValue x NoValues) part;
      small = small_words us (λ i lt. let s = same i (omega (arith, n2, lt)) in let x = h.small (d + i) in omega (arith, s, x));
    } in (
      us,
      shows,
      subst (λ x. Does texts number t vs gs (field_code x (words_in k) after) ws (Given us)) n1
          (subst (λ x. Does texts number t vs gs (field_code (length first) x after) ws (Given us)) n2
          (subst (λ x. Does texts number t vs gs (field_code (length first) (length us) x) ws (Given us)) n3
          (subst (λ x. Does texts number t vs gs (field_code (length first) (length us) (length last)) x (Given us)) whole
          (field_does texts number t vs gs first us last)))),
    )

pub own_code_does : OwnCodeDoes
own_code_does texts number P vs gs = record {
  number_leaf = number_does texts number (scratch P) vs gs;
  long_leaf = long_does texts number (scratch P) vs gs;
  literal = λ k ln lk. (suc number ∷ suc k ∷ [], two_show texts (suc number) (suc k) ln lk, literal_does texts number (scratch P) vs gs k);
  part = part_does texts number P vs gs;
  field_of = part_of_value texts number (scratch P) vs gs;
  length_of = length_does texts number (scratch P) vs gs;
  byte_of = byte_does texts number (scratch P) vs gs;
  check = check_does texts number (scratch P) vs gs;
  conversion = conversion_does texts number (scratch P) vs gs;
  index = index_does texts number (scratch P) vs gs;
  operator = λ o x y lx ly. operator_does texts number (scratch P) vs gs x y lx ly o;
  long_operator = λ o x y lx ly. long_operator_does texts number (scratch P) vs gs o x y;
  negation = negation_does texts number (scratch P) vs gs;
  relation = relation_does texts number (scratch P) vs gs;
  long_negation = λ x lx. long_negation_does texts number (scratch P) vs gs x;
  long_relation = λ b o x y lx ly. long_relation_does texts number (scratch P) vs gs b o x y;
  within = within_does texts number (scratch P) vs gs;
  long_within = long_within_does texts number (scratch P) vs gs;
  complement = complement_does texts number (scratch P) vs gs;
}
