use Rattle.std.proofs.Common.{◌<◌, arith}
use Rattle.code_forms.proofs.Begun.{region_found, no_region}
use Rattle.code_forms.proofs.lookups.region_of.Goals as goal

pub returns-then-count-eq0 : goal.returns-then-count-eq0
returns-then-count-eq0 c = no_region c.args.phrases.now c.args.offset _ c.requires c.if-count-eq0.true c.phrases_begun-count.ensures.rest

pub overflow_sub-result : goal.overflow_sub-result
overflow_sub-result c =
    let p = c.phrases_begun-count.ensures in let a = c.arms_begun-begun.ensures in
    let f = c.if-count-eq0.false in
    let some : 0 < c.phrases_begun-count.result = omega arith in
    (region_found c.args.phrases.now c.args.offset _ _ c.index-phrases-phrase.result c.as_slice.result.now c.requires some p.bound c.as_slice.ensures p.begun p.rest a.bound a.begun a.rest).0

pub returns : goal.returns
returns c =
    let p = c.phrases_begun-count.ensures in let a = c.arms_begun-begun.ensures in
    let f = c.if-count-eq0.false in
    let some : 0 < c.phrases_begun-count.result = omega arith in
    (region_found c.args.phrases.now c.args.offset _ _ c.index-phrases-phrase.result c.as_slice.result.now c.requires some p.bound c.as_slice.ensures p.begun p.rest a.bound a.begun a.rest).1
