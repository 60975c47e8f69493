-- Own code of intervals of LONG numbers, with their scratch words: as that of words, two scratch words for each number.
use Rattle.std.proofs.Common.{◌≡◌, ℕ, ◌+◌, ◌<◌, List, [], ◌∷◌, ◌++◌, Bool, true, false, not, refl, sym, ap, ◌∙◌, subst, arith}
use Rattle.std.specs.Prelude.{◌&&◌, ◌||◌, nat_lt, nat_le}
use Rattle.std.proofs.lemmas.Bool.Decides.{nat_tests}
use Rattle.mesa_types.specs.declared.typed_parts.Base.{Base}
use Rattle.mesa_types.specs.declared.typed_parts.Base.TheVariants.{Signed, Unsigned}
use Rattle.mesa_types.specs.declared.typed_parts.Bases.{Bases}
use Rattle.mesa_types.specs.Operators.{past, truth}
use Rattle.mesa_types.specs.Longs.{more_of, less_of, two_words, long_of, shifted_long, related_long, lies_in_long}
use Rattle.mesa_types.proofs.LongLaws.{joined}
use Rattle.code_forms.specs.declared.instruction.Instruction.{Instruction}
use Rattle.code_forms.specs.declared.instruction.Instruction.TheVariants.{StoreL, Mul, Not}
use Rattle.machine_rules.specs.Words.{words_at, put_words, push}
use Rattle.machine_rules.specs.Working.{leaves, stores_local, works}
use Rattle.code_rules.specs.OwnCode.{long_less_code, long_bound_code, long_within_code}
use Rattle.agreement_rules.specs.Layout.{Strings}
use Rattle.agreement_rules.specs.Own.{Did, go_on, works_all, Given, Comes, Does}
use Rattle.agreement_rules.proofs.Memory.{read_back}
use Rattle.agreement_rules.proofs.Leaves.{work, put_kept, gives}
use Rattle.agreement_rules.proofs.Intervals.{and_then, works_both, neither, but_not, both, behind_it, not_before, last_is, not_works, mul_works}

no_long : long_of 0 0 ≡ 0
unfolding long_of
no_long = refl

signed_less : (x y : ℕ) → x < 4294967296 → y < 4294967296
    → (nat_lt (shifted_long Signed x) (shifted_long Signed 0) || nat_lt (shifted_long Unsigned x) (shifted_long Unsigned y)) ≡ nat_lt (shifted_long Signed x) (shifted_long Unsigned y)
unfolding shifted_long
signed_less x y a b = grind (arith, nat_tests)

unsigned_less : (x y : ℕ) → x < 4294967296 → y < 4294967296
    → (not (nat_lt (shifted_long Signed y) (shifted_long Signed 0)) && nat_lt (shifted_long Unsigned x) (shifted_long Unsigned y)) ≡ nat_lt (shifted_long Unsigned x) (shifted_long Signed y)
unfolding shifted_long
unsigned_less x y a b = grind (arith, nat_tests)

module _ (texts : Strings) (number : ℕ) (vs gs : List ℕ) where
  -- the four words are those of the slots
  less_works : (b : Base) (s x : ℕ) (c : Base) (u y : ℕ) (ops : List ℕ) → words_at vs s 2 ≡ two_words x → words_at vs u 2 ≡ two_words y → x < 4294967296 → y < 4294967296
      → works_all texts number (long_less_code b s c u) (work ops vs gs) ≡ Did (work (truth (nat_lt (shifted_long b x) (shifted_long c y)) ∷ ops) vs gs)
  unfolding works_all works go_on leaves related_long two_words
  less_works Signed s x Signed u y ops e d lx ly = rw e (rw d (rw (joined x) (rw (joined y) refl)))
  less_works Unsigned s x Unsigned u y ops e d lx ly = rw e (rw d (rw (joined x) (rw (joined y) refl)))
  less_works Signed s x Unsigned u y ops e d lx ly = rw e (rw d (rw e (rw (joined x) (rw (joined y) (rw no_long (
      ap (λ z. Did (work (z ∷ ops) vs gs)) (neither (nat_lt (shifted_long Signed x) (shifted_long Signed 0)) (nat_lt (shifted_long Unsigned x) (shifted_long Unsigned y)) ∙ ap truth (signed_less x y lx ly))))))))
  less_works Unsigned s x Signed u y ops e d lx ly = rw d (rw e (rw d (rw (joined x) (rw (joined y) (rw no_long (
      ap (λ z. Did (work (z ∷ ops) vs gs)) (but_not (nat_lt (shifted_long Signed y) (shifted_long Signed 0)) (nat_lt (shifted_long Unsigned x) (shifted_long Unsigned y)) ∙ ap truth (unsigned_less x y lx ly))))))))

  bound_works : (is_open : Bool) (b : Base) (s x : ℕ) (c : Base) (u y : ℕ) (ops : List ℕ) → words_at vs s 2 ≡ two_words x → words_at vs u 2 ≡ two_words y → x < 4294967296 → y < 4294967296
      → works_all texts number (long_bound_code is_open b s c u) (work ops vs gs) ≡ Did (work (truth (nat_le (past is_open (shifted_long b x)) (shifted_long c y)) ∷ ops) vs gs)
  unfolding past and_then
  bound_works true b s x c u y ops e d lx ly =
      less_works b s x c u y ops e d lx ly ∙ ap (λ z. Did (work (truth z ∷ ops) vs gs)) (behind_it (shifted_long b x) (shifted_long c y))
  bound_works false b s x c u y ops e d lx ly =
      works_both texts number (long_less_code c u b s) (Not ∷ []) (work ops vs gs)
      ∙ ap (λ w. and_then w (works_all texts number (Not ∷ []))) (less_works c u y b s x ops d e ly lx)
      ∙ not_works texts number vs gs (nat_lt (shifted_long c y) (shifted_long b x)) ops
      ∙ ap (λ z. Did (work (truth z ∷ ops) vs gs)) (not_before (shifted_long b x) (shifted_long c y))

-- the words of three numbers
abbrev six : (x y z : ℕ) → List ℕ
six x y z = more_of x ∷ less_of x ∷ more_of y ∷ less_of y ∷ more_of z ∷ less_of z ∷ []

-- each of three numbers is read where it was written
three : (vs : List ℕ) (t x y z : ℕ) → (words_at (put_words vs t (six x y z)) t 2 ≡ two_words x)
    × (words_at (put_words vs t (six x y z)) (t + 2) 2 ≡ two_words y) × (words_at (put_words vs t (six x y z)) (t + 4) 2 ≡ two_words z)
unfolding two_words
three vs t x y z =
    let e : t ≡ t + 0 = omega arith in
    let now = put_words vs t (six x y z) in (
      ap (λ s. words_at now s 2) e ∙ read_back vs t [] (more_of x ∷ less_of x ∷ []) (more_of y ∷ less_of y ∷ more_of z ∷ less_of z ∷ []),
      read_back vs t (more_of x ∷ less_of x ∷ []) (more_of y ∷ less_of y ∷ []) (more_of z ∷ less_of z ∷ []),
      read_back vs t (more_of x ∷ less_of x ∷ more_of y ∷ less_of y ∷ []) (more_of z ∷ less_of z ∷ []) [],
    )

module _ (texts : Strings) (number t : ℕ) (vs gs : List ℕ) where
  stores_six : (x y z : ℕ) (ops : List ℕ) (is : List Instruction)
      → works_all texts number (StoreL t 6 ∷ is) (work (push (two_words x ++ (two_words y ++ two_words z)) ops) vs gs) ≡ works_all texts number is (work ops (put_words vs t (six x y z)) gs)
  unfolding works_all works go_on stores_local two_words
  stores_six x y z ops is = refl

  pub long_within_does : (b : Bases) (p q : Bool) (x y z : ℕ) → x < 4294967296 → y < 4294967296 → z < 4294967296
      → Does texts number t vs gs (long_within_code t b p q) (two_words x ++ (two_words y ++ two_words z)) (Given (truth (lies_in_long b x p y q z) ∷ []))
  unfolding lies_in_long and_then
  long_within_does b p q x y z lx ly lz rest =
      let now = put_words vs t (six x y z) in
      let s = three vs t x y z in
      let first = nat_le (past p (shifted_long b.first y)) (shifted_long b.number x) in
      let last = nat_le (past q (shifted_long b.number x)) (shifted_long b.last z) in
      let below = long_bound_code p b.first (t + 2) b.number t in
      let above = long_bound_code q b.number t b.last (t + 4) in
      let k1 = works_both texts number below (above ++ Mul ∷ []) (work rest now gs)
      ∙ ap (λ w. and_then w (works_all texts number (above ++ Mul ∷ []))) (bound_works texts number now gs p b.first (t + 2) y b.number t x rest s.1 s.0 ly lx) in
      let k2 = works_both texts number above (Mul ∷ []) (work (truth first ∷ rest) now gs)
      ∙ ap (λ w. and_then w (works_all texts number (Mul ∷ []))) (bound_works texts number now gs q b.number t x b.last (t + 4) z (truth first ∷ rest) s.0 s.2 lx lz) in
      let k3 = mul_works texts number t vs gs (truth first) (truth last) rest now ∙ ap (λ w. Did (work (w ∷ rest) now gs))
      (both first last ∙ ap (λ l. truth (first && l)) (last_is q (shifted_long b.number x) (shifted_long b.last z))) in
      subst (λ w. Comes t rest vs gs (Given (truth (first && nat_lt (shifted_long b.number x) (past (not q) (shifted_long b.last z))) ∷ [])) w)
      (sym (stores_six x y z rest (below ++ (above ++ Mul ∷ [])) ∙ k1 ∙ k2 ∙ k3))
      (gives t rest vs now gs _ _ refl (put_kept t vs (six x y z) (omega arith)))
