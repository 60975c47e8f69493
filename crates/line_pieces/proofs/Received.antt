-- A line that is written in two pieces.
use Rattle.std.proofs.Common.{◌≡◌, ℕ, Bool, true, false, refl, ◌+◌, ◌≤◌, List, ◌++◌, length, take, Option, Some, None, IfSome, inl, inr, append_assoc, arith, sym, subst, ◌∙◌, ap, length-append, append-nil, []}
use Rattle.std.proofs.Math.Seq.{take-append-add}
use Rattle.std.proofs.lemmas.List.{take-append-le}
use Rattle.mesa_base.specs.Outside.{Stream, AppendsPrefix, Rose}
use Rattle.line_pieces.specs.Outputs.{PrintsAll, PrintsPrefix, HasFaulted, Receives}

pub rose-after : (n k m : ℕ) → n ≤ k → Rose k m → Rose n m
rose-after n k m stays rose = elim rose as (λ _. Rose n m) [ inl more ↦ inl (omega arith) | inr last ↦ inr last ]

prefix-past : (bytes a b : List ℕ) (new : Option (List ℕ)) → AppendsPrefix (bytes ++ a) b new → AppendsPrefix bytes (a ++ b) new
prefix-past bytes a b new p = record {
  count = length a + p.count;
  within = rw length-append (let h = p.within in omega arith);
  told = p.told ∙ ap Some (append_assoc bytes a (take p.count b) ∙ ap (λ x. bytes ++ x) (sym (take-append-add a b p.count)));
}

all-both : (old mid new : Option (List ℕ)) (a b : List ℕ) → IfSome old (λ bytes. mid ≡ Some (bytes ++ a)) →
    IfSome mid (λ bytes. new ≡ Some (bytes ++ b)) → IfSome old (λ bytes. new ≡ Some (bytes ++ (a ++ b)))
all-both None mid new a b first second = tt
all-both (Some bytes) mid new a b first second = (rw first at second) ∙ ap Some (append_assoc bytes a b)

part-both : (old mid new : Option (List ℕ)) (a b : List ℕ) → IfSome old (λ bytes. mid ≡ Some (bytes ++ a)) →
    IfSome mid (λ bytes. AppendsPrefix bytes b new) → IfSome old (λ bytes. AppendsPrefix bytes (a ++ b) new)
part-both None mid new a b first second = tt
part-both (Some bytes) mid new a b first second = prefix-past bytes a b new (rw first at second)

-- the first piece was taken whole: what is said of the second is said of both
pub receives-both : (old mid new : Stream) (a b : List ℕ) → PrintsAll a old mid → old.faults ≤ mid.faults →
    Receives b mid new → Receives (a ++ b) old new
receives-both old mid new a b first stays second = elim second as (λ _. Receives (a ++ b) old new) [
  | inl all ↦ inl (all-both old.holds mid.holds new.holds a b first all)
  | inr cut ↦ inr (rose-after old.faults mid.faults new.faults stays cut.0, part-both old.holds mid.holds new.holds a b first cut.1)
]

part-cut : (old new : Option (List ℕ)) (a b : List ℕ) → IfSome old (λ bytes. AppendsPrefix bytes a new) →
    IfSome old (λ bytes. AppendsPrefix bytes (a ++ b) new)
part-cut None new a b part = tt
part-cut (Some bytes) new a b part = record {
  count = part.count;
  within = rw length-append (let h = part.within in omega arith);
  told = part.told ∙ ap (λ x. Some (bytes ++ x)) (sym (take-append-le part.count a b part.within));
}

-- the first piece was cut: so is the line
pub receives-cut : (old new : Stream) (a b : List ℕ) → PrintsPrefix a old new → HasFaulted old new → Receives (a ++ b) old new
receives-cut old new a b part rose = inr (rose, part-cut old.holds new.holds a b part)

-- nothing was written
nothing-new : (holds : Option (List ℕ)) → IfSome holds (λ bytes. holds ≡ Some (bytes ++ []))
nothing-new None = tt
nothing-new (Some bytes) = ap Some (sym (append-nil bytes))

-- a further piece was taken whole
pub prints-more : (old mid new : Stream) (a b c : List ℕ) → c ≡ a ++ b → PrintsAll a old mid → PrintsAll b mid new → PrintsAll c old new
prints-more old mid new a b c e first second = subst (λ z. PrintsAll z old new) (sym e) (all-both old.holds mid.holds new.holds a b first second)

-- a further piece was cut
pub prints-cut : (old mid new : Stream) (a b c : List ℕ) → c ≡ a ++ b → PrintsAll a old mid → PrintsPrefix b mid new → PrintsPrefix c old new
prints-cut old mid new a b c e first part = subst (λ z. PrintsPrefix z old new) (sym e) (part-both old.holds mid.holds new.holds a b first part)

-- a further piece was cut, so what stands behind it was not written
pub prints-part : (old mid new : Stream) (a b c all : List ℕ) → all ≡ a ++ (b ++ c) → PrintsAll a old mid → PrintsPrefix b mid new → PrintsPrefix all old new
prints-part old mid new a b c all e first part = prints-cut old mid new a (b ++ c) all e first (part-cut mid.holds new.holds b c part)

-- the first piece was cut, so what stands behind it was not written
pub prints-start : (old new : Stream) (a b c : List ℕ) → c ≡ a ++ b → PrintsPrefix a old new → PrintsPrefix c old new
prints-start old new a b c e part = subst (λ z. PrintsPrefix z old new) (sym e) (part-cut old.holds new.holds a b part)

-- the pieces so far are the text
pub prints-same : (old new : Stream) (a b : List ℕ) → a ≡ b → PrintsAll a old new → PrintsAll b old new
prints-same old new a b e prints = subst (λ z. PrintsAll z old new) e prints

-- a further piece was cut, so what stands behind it was not written
pub receives-part : (old mid new : Stream) (a b c all : List ℕ) → all ≡ a ++ (b ++ c) → PrintsAll a old mid → old.faults ≤ mid.faults →
    PrintsPrefix b mid new → HasFaulted mid new → Receives all old new
receives-part old mid new a b c all e first stays part rose =
    subst (λ z. Receives z old new) (sym e) (receives-both old mid new a (b ++ c) first stays (receives-cut mid new b c part rose))

-- it is known whether the whole text was taken
pub receives-so : (old new : Stream) (text : List ℕ) (all : Bool) → (all ≡ true → PrintsAll text old new) → (all ≡ false → PrintsPrefix text old new)
    → (all ≡ false → HasFaulted old new) → Receives text old new
receives-so old new text true whole cut fault = inl (whole refl)
receives-so old new text false whole cut fault = inr (fault refl, cut refl)

pub prints-nothing : (old : Stream) → PrintsAll [] old old
prints-nothing old = nothing-new old.holds
