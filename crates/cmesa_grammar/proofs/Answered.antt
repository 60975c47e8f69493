-- What the reader of configurations answers, by what its parser function reads.
use Rattle.std.proofs.Common.{◌≡◌, ◌≢◌, ℕ, ◌-◌, length, drop, List, refl, sym, ap, subst, ◌∙◌, arith, length-append}
use Rattle.std.proofs.Math.Seq.{drop-append_seam}
use Rattle.mesa_base.specs.declared.place.Place.{Place}
use Rattle.mesa_lexer.specs.declared.token.Token.{Token}
use Rattle.mesa_lexer.specs.declared.fault.SyntaxFault.{SyntaxFault}
use Rattle.mesa_lexer.specs.declared.fault.SyntaxFault.TheVariants as f
use Rattle.token_cursor.specs.Parsing.{Why, Unexpected, TooDeep, Got, Stop}
use Rattle.cmesa_grammar.specs.declared.syntax.Config.{Config}
use Rattle.cmesa_grammar.specs.ReadConfigs as r
use Rattle.token_cursor.specs.declared.fault.Stopped.{Stopped}
use Rattle.token_cursor.specs.declared.fault.Stopped.TheVariants as h
use Rattle.token_cursor.specs.Running.{why_of, fault_of}
use Rattle.cmesa_grammar.specs.Answer as a
use Rattle.cmesa_grammar.specs.Answer.{ParsesConfiguration, FaultAt, IsFault, HasSyntaxFault, Answer, Tree, Fault, Answers, place_at, place_of}
use Rattle.cmesa_grammar.proofs.Whole as w

-- the tokens that are left are those from the fault on
rest_at : (ts rest : List Token) (why : Why) → r.text ts ≡ Stop why rest → drop (length ts - length rest) ts ≡ rest
rest_at ts rest why e =
    let g = w.halted ts rest why e in
    let size : length g.front ≡ length ts - length rest = omega (arith, ap length g.splits, length-append g.front rest) in
    subst (λ z. drop z ts ≡ rest) size (subst (λ z. drop (length g.front) z ≡ rest) (sym g.splits) (drop-append_seam g.front rest))

-- which fault a parser function stops with
fault_at : (ts rest : List Token) (why : Why) → r.text ts ≡ Stop why rest → FaultAt ts why (length ts - length rest)
fault_at ts rest Unexpected e = w.unexpected ts rest e
fault_at ts rest TooDeep e = w.too_deep ts rest e

here : (ts rest : List Token) (end : Place) (why : Why) → r.text ts ≡ Stop why rest → IsFault ts end why (place_at rest end)
here ts rest end why e = record { at = length ts - length rest; fault = fault_at ts rest why e; here = ap (λ z. place_at z end) (sym (rest_at ts rest why e)) }

pub unexpected : (ts rest : List Token) (end : Place) → r.text ts ≡ Stop Unexpected rest → HasSyntaxFault ts end (f.Unexpected (place_at rest end))
unexpected ts rest end e = a.unexpected (here ts rest end Unexpected e)

pub too_deep : (ts rest : List Token) (end : Place) → r.text ts ≡ Stop TooDeep rest → HasSyntaxFault ts end (f.TooDeep (place_at rest end))
too_deep ts rest end e = a.too_deep (here ts rest end TooDeep e)

-- two answers are one
once : (ts : List Token) (x y : Answer) → Answers ts x → Answers ts y → x ≡ y
once ts x y p q = let one = w.one_answer ts in one.only x p ∙ sym (one.only y q)

once_tree : (x y : Config) → Tree x ≡ Tree y → x ≡ y
once_tree x y e = cc

pub same_tree : (ts : List Token) (x y : Config) → ParsesConfiguration ts x → ParsesConfiguration ts y → x ≡ y
same_tree ts x y p q = once_tree x y (once ts (Tree x) (Tree y) p q)

pub tree_or_fault : (ts : List Token) (end : Place) (x : Config) (fault : SyntaxFault) → ParsesConfiguration ts x → HasSyntaxFault ts end fault → ⊥
tree_or_fault ts end x fault p (a.unexpected q) = absurd (cc (once ts (Tree x) (Fault Unexpected q.at) p q.fault))
tree_or_fault ts end x fault p (a.too_deep q) = absurd (cc (once ts (Tree x) (Fault TooDeep q.at) p q.fault))

same_place : (ts : List Token) (end : Place) (why : Why) (p q : Place) → IsFault ts end why p → IsFault ts end why q → p ≡ q
same_place ts end why p q d e =
    let at : d.at ≡ e.at = same_at (once ts (Fault why d.at) (Fault why e.at) d.fault e.fault) in
    d.here ∙ (ap (λ z. place_of ts end z) at ∙ sym e.here)
  where
    same_at : {i j : ℕ} → Fault why i ≡ Fault why j → i ≡ j
    same_at e = cc

other_fault : (ts : List Token) (end : Place) (p q : Place) → IsFault ts end Unexpected p → IsFault ts end TooDeep q → ⊥
other_fault ts end p q d e = absurd (cc (once ts (Fault Unexpected d.at) (Fault TooDeep e.at) d.fault e.fault))

pub same_fault : (ts : List Token) (end : Place) (x y : SyntaxFault) → HasSyntaxFault ts end x → HasSyntaxFault ts end y → x ≡ y
same_fault ts end x y (a.unexpected {p = p} d) (a.unexpected {p = q} e) = ap f.Unexpected (same_place ts end Unexpected p q d e)
same_fault ts end x y (a.unexpected {p = p} d) (a.too_deep {p = q} e) = absurd (other_fault ts end p q d e)
same_fault ts end x y (a.too_deep {p = p} d) (a.unexpected {p = q} e) = absurd (other_fault ts end q p e d)
same_fault ts end x y (a.too_deep {p = p} d) (a.too_deep {p = q} e) = ap f.TooDeep (same_place ts end TooDeep p q d e)

-- ---- the clauses of the reader, which reads the tokens us that are ts

pub found : (ts us rest : List Token) (x : Config) → us ≡ ts → r.text us ≡ Got x rest → ParsesConfiguration ts x
found ts us rest x same e = subst (λ z. ParsesConfiguration z x) same (w.found us rest x e).1

pub found_tree : (ts us rest : List Token) (x : Config) → us ≡ ts → r.text us ≡ Got x rest → (y : Config) → ParsesConfiguration ts y → x ≡ y
found_tree ts us rest x same e y p = same_tree ts x y (found ts us rest x same e) p

pub found_fault : (ts us rest : List Token) (end : Place) (x : Config) → us ≡ ts → r.text us ≡ Got x rest → (fault : SyntaxFault) → HasSyntaxFault ts end fault → ⊥
found_fault ts us rest end x same e fault d = tree_or_fault ts end x fault (found ts us rest x same e) d

abbrev pub Halted : List Token → List Token → Stopped → Type 0
Halted us rest why = why ≢ h.Memory → r.text us ≡ Stop (why_of why) rest

-- where memory did not run out
stopped_fault : (ts rest : List Token) (end : Place) (why : Stopped) → Halted ts rest why → fault_of why (place_at rest end) ≢ f.Memory → HasSyntaxFault ts end (fault_of why (place_at rest end))
stopped_fault ts rest end h.Unexpected e other = unexpected ts rest end (e (λ z. cc))
stopped_fault ts rest end h.TooDeep e other = too_deep ts rest end (e (λ z. cc))
stopped_fault ts rest end h.Memory e other = absurd (other refl)

stopped_memory : (ts rest : List Token) (end : Place) (why : Stopped) (x : Config) → Halted ts rest why → ParsesConfiguration ts x → fault_of why (place_at rest end) ≡ f.Memory
stopped_memory ts rest end h.Unexpected x e p = absurd (tree_or_fault ts end x _ p (unexpected ts rest end (e (λ z. cc))))
stopped_memory ts rest end h.TooDeep x e p = absurd (tree_or_fault ts end x _ p (too_deep ts rest end (e (λ z. cc))))
stopped_memory ts rest end h.Memory x e p = refl

module _ (ts us rest : List Token) (end last place : Place) (why : Stopped) (answer : SyntaxFault) (same : us ≡ ts) (ends : last ≡ end) (there : place ≡ place_at rest last) (is : answer ≡ fault_of why place) (halts : Halted us rest why) where
  answer_is : answer ≡ fault_of why (place_at rest end)
  answer_is = is ∙ ap (fault_of why) (there ∙ ap (place_at rest) ends)

  halts_there : Halted ts rest why
  halts_there = subst (λ z. Halted z rest why) same halts

  pub halted : answer ≢ f.Memory → HasSyntaxFault ts end answer
  halted other = subst (λ z. HasSyntaxFault ts end z) (sym answer_is) (stopped_fault ts rest end why halts_there (λ e. other (answer_is ∙ e)))

  pub halted_tree : (x : Config) → ParsesConfiguration ts x → answer ≡ f.Memory
  halted_tree x p = answer_is ∙ stopped_memory ts rest end why x halts_there p

  pub halted_fault : (fault : SyntaxFault) → HasSyntaxFault ts end fault → answer ≢ f.Memory → answer ≡ fault
  halted_fault fault d other = same_fault ts end answer fault (halted other) d
