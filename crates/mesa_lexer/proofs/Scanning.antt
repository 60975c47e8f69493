-- A step of the scanner is a step of the walk through the text.
use Rattle.std.proofs.Common.{◌≡◌, ℕ, ◌+◌, ◌-◌, ◌^◌, ◌<◌, ◌≤◌, List, [], ◌∷◌, ◌++◌, length, take, drop, arith, sym, ap, subst, ◌∙◌}
use Rattle.std.proofs.lemmas.List.{length-drop, length-take-le, length_push, take_rest}
use Rattle.std.proofs.Math.Seq.{take-add}
use Rattle.mesa_base.specs.declared.place.Place.{Place}
use Rattle.mesa_lexer.specs.Places.{place_after}
use Rattle.mesa_lexer.specs.Blanks.{IsGap}
use Rattle.mesa_lexer.specs.Forms.{Whole}
use Rattle.mesa_base.specs.declared.limits.TheConstants.{TEXT_BYTES}
use Rattle.mesa_lexer.specs.Tokens.{place_in, IsToken, Reaches, Stops, HasTokens, HasLexFault}
use Rattle.mesa_lexer.specs.Tokens as t
use Rattle.mesa_lexer.specs.Positions.{IsBehind, passed, place_of}
use Rattle.mesa_lexer.specs.Advances.{Advances, gap, token, Refuses, nothing, stray, cut, large, long}
use Rattle.mesa_lexer.specs.declared.token.Kind.{Kind}
use Rattle.mesa_lexer.specs.declared.token.Token.{Token}
use Rattle.mesa_lexer.specs.declared.position.Position.{Position}
use Rattle.mesa_lexer.specs.declared.fault.LexFault.{LexFault}
use Rattle.mesa_lexer.proofs.Gaps.{gap_is}
use Rattle.mesa_lexer.proofs.Same.{token_some}
use Rattle.mesa_lexer.proofs.Behind.{passed_behind, place_behind, few_lines}

-- what holds before each step
pub record Scanned (text : List ℕ) (at : ℕ) (items : List Token) (position : Position) : Type 0 where
  pub short : length text ≤ TEXT_BYTES
  pub is_there : at ≤ length text
  pub few : length items ≤ at
  pub reaches : Reaches text at items
  pub behind : IsBehind position (take at text)

-- nothing is scanned yet
pub scanned_start : (text : List ℕ) (position : Position) → length text ≤ TEXT_BYTES → IsBehind position [] → Scanned text 0 [] position
scanned_start text position short behind = record { short = short; is_there = omega arith; few = omega arith; reaches = t.start; behind = behind }

few_behind : {text : List ℕ} {at : ℕ} {items : List Token} {position : Position} → Scanned text at items position → (position.line ≤ at + 1) × (position.column ≤ at + 1)
few_behind {text} {at} {items} {position} scanned =
    let low = few_lines position (take at text) scanned.behind in
    rw (length-take-le at text scanned.is_there) at low

-- lines and columns leave room for the rest of the text
pub room : {text : List ℕ} {at : ℕ} {items : List Token} {position : Position} → Scanned text at items position
    → (position.line + length (take (length text - at) (drop at text)) < 2 ^ 32) × (position.column + length (take (length text - at) (drop at text)) < 2 ^ 32)
room {text} {at} {items} {position} scanned =
    let low = few_behind scanned in
    let a = low.0 in
    let b = low.1 in
    let there = scanned.is_there in
    let short = scanned.short in
    rw (take_rest text at) (omega (arith, length-drop at text), omega (arith, length-drop at text))

-- how far a step goes
pub step_within : {rest : List ℕ} {position : Position} {before after : List Token} {n : ℕ} → Advances rest position before n after → (0 < n) × (n ≤ length rest)
step_within (gap g) = let all = gap_is g in (all.1, all.2)
step_within {rest} (token {n = n} {kind = kind} t) = (token_some rest n (Whole kind) t.longest, t.longest.is_there)

-- a token and its place are a step
pub step_token : {rest : List ℕ} {position : Position} {before : List Token} {n : ℕ} {kind : Kind} {place : Place} → IsToken rest n kind → place ≡ place_of position (length before)
    → Advances rest position before n (before ++ record { kind = kind; place = place } ∷ [])
step_token {rest} {position} {before} {n} {kind} {place} t same = subst (λ (p : Place). Advances rest position before n (before ++ record { kind = kind; place = p } ∷ [])) (sym same) (token t)

-- one step further
pub scanned_step : {text : List ℕ} {at n : ℕ} {items after : List Token} {position : Position} → Scanned text at items position → Advances (drop at text) position items n after
    → Scanned text (at + n) after (passed position (take n (drop at text)))
scanned_step {text} {at} {n} {items} {after} {position} scanned step = record {
  short = scanned.short;
  is_there = (let w = (step_within step).1 in let l = scanned.is_there in omega (arith, length-drop at text));
  few = few step;
  reaches = reaches step;
  behind = rw (take-add at n text) (passed_behind (take n (drop at text)) position (take at text) scanned.behind);
}
  where
    few : {after : List Token} {n : ℕ} → Advances (drop at text) position items n after → length after ≤ at + n
    few (gap g) = let f = scanned.few in omega arith
    few (token {kind = kind} t) =
        let f = scanned.few in
        let some = (step_within {position = position} {before = items} (token t)).0 in
        omega (arith, length_push items (record { kind = kind; place = place_of position (length items) }))

    reaches : {after : List Token} {n : ℕ} → Advances (drop at text) position items n after → Reaches text (at + n) after
    reaches (gap g) = t.gap scanned.reaches g
    reaches (token {n = n} {kind = kind} tok) =
        subst (λ (place : Place). Reaches text (at + n) (items ++ record { kind = kind; place = place } ∷ []))
        (sym (place_behind position (take at text) (length items) scanned.behind))
        (t.token scanned.reaches tok)

-- a fault that a step finds is the text's
pub scanned_fault : {text : List ℕ} {at : ℕ} {items : List Token} {position : Position} {fault : LexFault} → Scanned text at items position → at < length text
    → Refuses (drop at text) position (length items) fault → HasLexFault text fault
scanned_fault {text} {at} {items} {position} {fault} scanned less refuses = go refuses
  where
    here : place_of position (length items) ≡ place_in text at items
    here = place_behind position (take at text) (length items) scanned.behind

    further : (n : ℕ) → place_of (passed position (take n (drop at text))) (length items) ≡ place_in text (at + n) items
    further n =
        place_behind (passed position (take n (drop at text))) (take at text ++ take n (drop at text)) (length items) (passed_behind (take n (drop at text)) position (take at text) scanned.behind)
        ∙ ap (λ l. place_after l (length items)) (sym (take-add at n text))

    stops : ((n : ℕ) → ¬ IsGap (drop at text) n) → Stops text at items
    stops gapless = record { not_long = scanned.short; before = scanned.reaches; is_there = less; no_gap = gapless }

    go : {fault : LexFault} → Refuses (drop at text) position (length items) fault → HasLexFault text fault
    go (nothing s) = rw here (t.no_token (stops s.0) s.1)
    go (stray {n = n} s) = rw (further n) (t.not_in_text (stops s.0) s.1 (let l = s.2 in omega (arith, length-drop at text)))
    go (cut s) = rw here (t.open_text (stops s.0) s.1 (omega (arith, length-drop at text)))
    go (large s) = rw here (t.too_large (stops s.0) s.1.longest s.1.passed)
    go (long s) = rw here (t.too_long (stops s.0) s.1.longest s.1.passed)

pub taken_length : {rest : List ℕ} {position : Position} {before after : List Token} {n : ℕ} → Advances rest position before n after → n ≡ length (take n rest)
taken_length {rest} {n = n} step = sym (length-take-le n rest (step_within step).1)

pub record Taken (text : List ℕ) (at n : ℕ) (position : Position) : Type 0 where
  pub some : 0 < n
  pub within : at + n ≤ 1048576
  pub inside : at + n ≤ length text
  pub lines : position.line + length (take n (take (length text - at) (drop at text))) < 2 ^ 32
  pub columns : position.column + length (take n (take (length text - at) (drop at text))) < 2 ^ 32

pub step_taken : {text : List ℕ} {at n : ℕ} {items after : List Token} {position : Position} → Scanned text at items position
    → Advances (take (length text - at) (drop at text)) position items n after → Taken text at n position
step_taken {text} {at} {n} {items} {after} {position} scanned step =
    let low = few_behind scanned in
    let a = low.0 in
    let b = low.1 in
    let there = scanned.is_there in
    let short = scanned.short in
    let within = (step_within step).1 in
    let len = length-take-le n (take (length text - at) (drop at text)) (step_within step).1 in
    let all = rw (take_rest text at) at within in
    let inside : at + n ≤ length text = omega (arith, length-drop at text) in
    record { some = (step_within step).0; within = omega arith; inside = inside; lines = rw len (omega arith); columns = rw len (omega arith) }

pub scanned_taken : {text : List ℕ} {at n : ℕ} {items after : List Token} {position : Position} → Scanned text at items position
    → Advances (take (length text - at) (drop at text)) position items n after → Scanned text (at + n) after (passed position (take n (take (length text - at) (drop at text))))
scanned_taken {text} {at} {n} {items} {after} {position} scanned step =
    rw (take_rest text at) (scanned_step scanned (rw (take_rest text at) at step))

pub fault_taken : {text : List ℕ} {at : ℕ} {items : List Token} {position : Position} {fault : LexFault} → Scanned text at items position → at < length text
    → Refuses (take (length text - at) (drop at text)) position (length items) fault → HasLexFault text fault
fault_taken {text} {at} {items} {position} {fault} scanned less refuses = scanned_fault scanned less (rw (take_rest text at) at refuses)

-- at the text's end all tokens are there
pub scanned_all : {text : List ℕ} {at : ℕ} {items : List Token} {position : Position} → Scanned text at items position → length text ≤ at
    → HasTokens text (record { items = items; end = place_of position (length items) })
scanned_all {text} {at} {items} {position} scanned end =
    let same : at ≡ length text = (let l = scanned.is_there in omega arith) in
    let here : place_of position (length items) ≡ place_in text at items = place_behind position (take at text) (length items) scanned.behind in
    record {
      not_long = scanned.short;
      all = subst (λ at. Reaches text at items) same scanned.reaches;
      end_is = here ∙ ap (λ at. place_in text at items) same;
    }
