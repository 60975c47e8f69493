-- Each variable has slots of its own.
use Rattle.std.proofs.Common.{ℕ, zero, suc, ◌+◌, ◌<◌, ◌≤◌, arith}
use Rattle.mesa_types.specs.Typed.{Kinds, NoKinds, AndKind}
use Rattle.mesa_types.specs.Shapes.{words_in_all, words_before, count_in}
use Rattle.code_rules.specs.Laws.{SlotsAreApart}
use Rattle.code_rules.specs.Slots.{words_at}

apart : (ks : Kinds) (n m : ℕ) → n < m → m < count_in ks → words_before ks n + words_at ks n ≤ words_before ks m
unfolding words_before count_in
apart NoKinds n m l h = omega (h, arith)
apart (AndKind k ks) n zero l h = omega (l, arith)
apart (AndKind k ks) zero (suc m) l h = omega arith
apart (AndKind k ks) (suc n) (suc m) l h = omega (apart ks n m (omega (l, arith)) (omega (h, arith)), arith)

inside : (ks : Kinds) (n : ℕ) → n < count_in ks → words_before ks n + words_at ks n ≤ words_in_all ks
unfolding words_before count_in words_in_all
inside NoKinds n h = omega (h, arith)
inside (AndKind k ks) zero h = omega arith
inside (AndKind k ks) (suc n) h = omega (inside ks n (omega (h, arith)), arith)

pub slots_are_apart : SlotsAreApart
slots_are_apart = record {
  locals = λ P n m. apart P.locals n m;
  globals = λ P n m. apart P.globals n m;
  scratch_words = λ P n. inside P.locals n;
}
