-- A constant names no item of an import.
use Rattle.std.specs.Prelude.{ℕ, ◌≡◌, Bool, Option, Some, None}
use Rattle.std.proofs.Common.{refl, arith}
use Rattle.mesa_types.specs.Constants.{as_word, converted_constant, constant, constant_run, constant_long_run, all_true, some_true, fine, ◌>>=◌}
use Rattle.mesa_types.specs.Operators.{checked, tried}
use Rattle.mesa_types.specs.Longs.{tried_long}
use Rattle.check_rules.specs.Typed as t
use Rattle.checking_laws.proofs.Uses as u

-- a step that has a value had one before it
some_before : {A B : Type 0} (o : Option A) (k : A → Option B) (b : B) → (o >>= k) ≡ Some b → (a : A) × (o ≡ Some a) × (k a ≡ Some b)
some_before (Some a) k b h = (a, refl, h)
some_before None k b h = cc

-- the operand of an operator on words has a value too
word_before : {B : Type 0} (o : Option ℕ) (k : ℕ → Option B) (b : B) → ((o >>= as_word) >>= k) ≡ Some b → (a : ℕ) × (o ≡ Some a) × (c : ℕ) × (k c ≡ Some b)
word_before o k b h =
    let p = some_before (o >>= as_word) k b h in
    let q = some_before o as_word p.0 p.1 in
    (q.0, q.1, p.0, p.2)

mutual
  unfolding constant u.in_expr

  pub constant_unused : (e : t.Expr) (n : ℕ) → constant e ≡ Some n → u.in_expr e ≡ 0
  constant_unused (t.Number m) n h = refl
  constant_unused (t.LongNumber m) n h = refl
  constant_unused (t.Literal k) n h = refl
  constant_unused (t.Variable x ss words) n h = cc
  constant_unused (t.FieldOf e parts) n h = cc
  constant_unused (t.LengthOf e) n h = cc
  constant_unused (t.ByteOf e i) n h = cc
  constant_unused (t.Checked r e) n h = let p = word_before (constant e) _ n h in constant_unused e p.0 p.1
  constant_unused (t.Converted c e) n h = let p = some_before (constant e) (converted_constant c) n h in constant_unused e p.0 p.1
  constant_unused (t.Operate e os) n h =
      let p = word_before (constant e) _ n h in omega (arith, constant_unused e p.0 p.1, run_unused os p.2 n p.3)
  constant_unused (t.OperateLong e os) n h =
      let p = some_before (constant e) _ n h in omega (arith, constant_unused e p.0 p.1, long_run_unused os p.0 n p.2)
  constant_unused (t.Negate e) n h = let p = word_before (constant e) _ n h in constant_unused e p.0 p.1
  constant_unused (t.NegateLong e) n h = let p = some_before (constant e) _ n h in constant_unused e p.0 p.1
  constant_unused (t.Relate b o d e) n h =
      let p = word_before (constant d) _ n h in
      let q = word_before (constant e) _ n p.3 in
      omega (arith, constant_unused d p.0 p.1, constant_unused e q.0 q.1)
  constant_unused (t.RelateLong b o d e) n h =
      let p = some_before (constant d) _ n h in
      let q = some_before (constant e) _ n p.2 in
      omega (arith, constant_unused d p.0 p.1, constant_unused e q.0 q.1)
  constant_unused (t.Within b e (t.Between f x g y)) n h =
      let p = word_before (constant e) _ n h in
      let q = word_before (constant f) _ n p.3 in
      let r = word_before (constant g) _ n q.3 in
      omega (arith, constant_unused e p.0 p.1, constant_unused f q.0 q.1, constant_unused g r.0 r.1)
  constant_unused (t.WithinLong b e (t.Between f x g y)) n h =
      let p = some_before (constant e) _ n h in
      let q = some_before (constant f) _ n p.2 in
      let r = some_before (constant g) _ n q.2 in
      omega (arith, constant_unused e p.0 p.1, constant_unused f q.0 q.1, constant_unused g r.0 r.1)
  constant_unused (t.Not e) n h = let p = word_before (constant e) _ n h in constant_unused e p.0 p.1
  constant_unused (t.AllOf es) n h = let p = some_before (all_true es) _ n h in all_unused es p.0 p.1
  constant_unused (t.SomeOf es) n h = let p = some_before (some_true es) _ n h in some_unused es p.0 p.1
  constant_unused (t.Construct places es) n h = cc
  constant_unused (t.Call c places es words ph) n h = cc
  constant_unused (t.Raise r places es words ph) n h = cc

  run_unused : (os : t.Operations) (x n : ℕ) → constant_run os x ≡ Some n → u.in_operations os ≡ 0
  run_unused t.NoOperation x n h = refl
  run_unused (t.Then r o e os) x n h =
      let p = some_before (fine (checked r x)) _ n h in
      let q = word_before (constant e) _ n p.2 in
      let w = some_before (fine (tried o p.0 q.2)) _ n q.3 in
      omega (arith, constant_unused e q.0 q.1, run_unused os w.0 n w.2)

  long_run_unused : (os : t.Operations) (x n : ℕ) → constant_long_run os x ≡ Some n → u.in_operations os ≡ 0
  long_run_unused t.NoOperation x n h = refl
  long_run_unused (t.Then r o e os) x n h =
      let q = some_before (constant e) _ n h in
      let w = some_before (fine (tried_long o x q.0)) _ n q.2 in
      omega (arith, constant_unused e q.0 q.1, long_run_unused os w.0 n w.2)

  all_unused : (es : t.Exprs) (b : Bool) → all_true es ≡ Some b → u.in_exprs es ≡ 0
  all_unused t.NoExprs b h = refl
  all_unused (t.AndExpr e es) b h =
      let p = word_before (constant e) _ b h in
      let q = some_before (all_true es) _ b p.3 in
      omega (arith, constant_unused e p.0 p.1, all_unused es q.0 q.1)

  some_unused : (es : t.Exprs) (b : Bool) → some_true es ≡ Some b → u.in_exprs es ≡ 0
  some_unused t.NoExprs b h = refl
  some_unused (t.AndExpr e es) b h =
      let p = word_before (constant e) _ b h in
      let q = some_before (some_true es) _ b p.3 in
      omega (arith, constant_unused e p.0 p.1, some_unused es q.0 q.1)
