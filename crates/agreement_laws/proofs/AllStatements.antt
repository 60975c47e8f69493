-- Every statement follows its meaning: the recursion over the tree, which gives the lemma of each form its parts.
use Rattle.std.proofs.Common.{ℕ, suc}
use Rattle.mesa_types.specs.Typed.{Count, Endless, Stmt, Null, Marked, Declare, DeclareAs, Assign, Extract, Perform, If, Select, SelectLong, Block, Repeat, For, Jump, ReturnWith, Resume, Reject, Retry, Continue, Stmts, NoStmts, AndStmt, Cases, Otherwise, AndCase, Exits, NoExits, AndExit, Loop, LoopOf, Finish, NoFinish, Finished}
use Rattle.source_meaning.specs.Meaning.{does}
use Rattle.agreement_laws.specs.World.{World}
use Rattle.agreement_laws.specs.Promises.{next, ExpressionsFollow, SignalsFollow, Follows, SequenceFollows, CasesFollow, LoopFollows, NextFollows, StatementsFollow}
use Rattle.agreement_laws.proofs.Blocks.{block_follows}
use Rattle.agreement_laws.proofs.CountedLoops as counted
use Rattle.agreement_laws.proofs.CountedLoops.{for_follows}
use Rattle.agreement_laws.proofs.Declared.{declare_as_follows}
use Rattle.agreement_laws.proofs.Extracts.{extract_follows}
use Rattle.agreement_laws.proofs.Exits.{ExitsFollow, no_exits_follow, exits_follow}
use Rattle.agreement_laws.proofs.Rounds.{FinishFollows, no_finish_follows, finished_follows, repeat_follows}
use Rattle.agreement_laws.proofs.Selects.{otherwise_follows, case_follows, select_follows, select_none_follows, select_long_follows, select_long_none_follows}
use Rattle.agreement_laws.proofs.Statements.{null_follows, marked_follows, declare_follows, assign_follows, perform_follows, if_follows, jump_follows, return_follows, resume_follows, reject_follows, retry_follows, continue_follows, sequence_none, sequence_more}

module _ (W : World) (n : ℕ) (again : NextFollows W n) (signals : SignalsFollow W n) (expressions : ExpressionsFollow W n) where
  abbrev RoundsFollow : Count → Loop → Type 0
  RoundsFollow c l = LoopFollows W (suc n) (does W.program (next W n)) c l

  mutual
    pub statement_follows : (s : Stmt) → Follows W n s
    statement_follows Null = null_follows W n
    statement_follows (Marked k s) = marked_follows W n again k s (statement_follows s)
    statement_follows (Declare hs k) = declare_follows W n hs k
    statement_follows (DeclareAs hs k e) = declare_as_follows W n expressions hs k e
    statement_follows (Assign h s e) = assign_follows W n expressions h s e
    statement_follows (Extract of_record ts e) = extract_follows W n expressions signals.raise of_record ts e
    statement_follows (Perform e) = perform_follows W n expressions e
    statement_follows (If e s t) = if_follows W n expressions e s t (statement_follows s) (statement_follows t)
    statement_follows (Select e (Otherwise s)) = select_none_follows W n expressions e s (statement_follows s)
    statement_follows (Select e (AndCase ts s cs)) =
        select_follows W n expressions e ts s cs (case_follows W n expressions signals.raise ts s cs (statement_follows s) (cases_follow cs))
    statement_follows (SelectLong e (Otherwise s)) = select_long_none_follows W n expressions e s (statement_follows s)
    statement_follows (SelectLong e (AndCase ts s cs)) =
        select_long_follows W n expressions e ts s cs (case_follows W n expressions signals.raise ts s cs (statement_follows s) (cases_follow cs))
    statement_follows (Block ph ss es) = block_follows W n signals.phrase ph ss es (sequence_follows ss) (labels_follow es)
    statement_follows (Repeat c l) = repeat_follows W (suc n) (does W.program (next W n)) c l (loop_follows Endless l)
    statement_follows (For g down base i l) = for_follows W n expressions g down base i l (λ c. loop_follows c l)
    statement_follows (Jump arms goal) = jump_follows W n arms goal
    statement_follows (ReturnWith arms first places es) = return_follows W n expressions arms first places es
    statement_follows (Resume places es) = resume_follows W n expressions places es
    statement_follows Reject = reject_follows W n
    statement_follows (Retry k) = retry_follows W n k
    statement_follows (Continue k) = continue_follows W n k

    sequence_follows : (ss : Stmts) → SequenceFollows W n ss
    sequence_follows NoStmts = sequence_none W n
    sequence_follows (AndStmt s ss) = sequence_more W n s ss (statement_follows s) (sequence_follows ss)

    cases_follow : (cs : Cases) → CasesFollow W n cs
    cases_follow (Otherwise s) = otherwise_follows W n s (statement_follows s)
    cases_follow (AndCase ts s cs) = case_follows W n expressions signals.raise ts s cs (statement_follows s) (cases_follow cs)

    labels_follow : (es : Exits) → ExitsFollow W n es
    labels_follow NoExits = no_exits_follow W n
    labels_follow (AndExit ls s es) = exits_follow W n ls s es (statement_follows s) (labels_follow es)

    pub loop_follows : (c : Count) (l : Loop) → RoundsFollow c l
    loop_follows c (LoopOf cond s es fin) = counted.loop_follows W n expressions signals.raise again c cond s es fin (statement_follows s) (labels_follow es) (finish_follows fin)

    finish_follows : (fin : Finish) → FinishFollows W n fin
    finish_follows NoFinish = no_finish_follows W n
    finish_follows (Finished s) = finished_follows W n s (statement_follows s)

  pub statements_follow : StatementsFollow W (suc n) (does W.program (next W n))
  statements_follow = record { statement = statement_follows; loop = loop_follows }
