use Rattle.std.proofs.Common.{◌∙◌, sym, ap, set, arith}
use Rattle.std.proofs.lemmas.Bool.Decides.{nat_tests}
use Rattle.session_choice.specs.Changes.{key_of, saw_held, held_after, saw_other_of, others_after}
use Rattle.session_choice.proofs.KeyedLemmas.{IsAt, is_at, not_found}
use Rattle.session_choice.proofs.others.see_other.Goals as goal

pub index_mut-requires : goal.index_mut-requires
index_mut-requires c = omega (arith, (is_at key_of c.args.session c.args.others.now.items c.in-Some.place cc).inside)

pub returns-in-Some-clause-answer : goal.returns-in-Some-clause-answer
unfolding saw_other_of
returns-in-Some-clause-answer c =
    let at : IsAt key_of c.args.session c.args.others.now.items c.in-Some.place = is_at key_of c.args.session c.args.others.now.items c.in-Some.place cc in
    rw (at.found c.index_mut.result.now) (c.see.ensures.answer ∙ ap (λ known. saw_held known c.args.timeline) c.index_mut.ensures.value)

pub returns-in-Some-clause-items : goal.returns-in-Some-clause-items
unfolding others_after
returns-in-Some-clause-items c =
    let at : IsAt key_of c.args.session c.args.others.now.items c.in-Some.place = is_at key_of c.args.session c.args.others.now.items c.in-Some.place cc in
    rw (at.found c.index_mut.result.now)
    (ap (λ known. set c.args.others.now.items c.in-Some.place known)
    (c.see.ensures.held ∙ ap (λ known. held_after c.args.timeline known) c.index_mut.ensures.value)
    ∙ sym (at.updated (held_after c.args.timeline) c.index_mut.result.now))

pub returns-in-None-clause-answer : goal.returns-in-None-clause-answer
unfolding saw_other_of
returns-in-None-clause-answer c =
    rw (not_found key_of c.args.session c.args.others.now.items cc) (grind (arith, nat_tests))

pub returns-in-None-clause-items : goal.returns-in-None-clause-items
unfolding others_after
returns-in-None-clause-items c =
    rw (not_found key_of c.args.session c.args.others.now.items cc) (grind (arith, nat_tests))

pub returns-in-None-2-clause-answer : goal.returns-in-None-2-clause-answer
unfolding saw_other_of
returns-in-None-2-clause-answer c =
    rw (not_found key_of c.args.session c.args.others.now.items cc) (grind (arith, nat_tests))

pub returns-in-None-2-clause-items : goal.returns-in-None-2-clause-items
unfolding others_after
returns-in-None-2-clause-items c =
    rw (not_found key_of c.args.session c.args.others.now.items cc) (grind (arith, nat_tests))
