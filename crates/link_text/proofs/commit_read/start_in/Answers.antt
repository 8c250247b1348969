use Rattle.link_text.proofs.commit_read.start_in.Goals as goal

pub returns-in_default-signed_in-2-clause-none : goal.returns-in_default-signed_in-2-clause-none
returns-in_default-signed_in-2-clause-none c = λ start rest tidy same.
    c.in_default-signed_in-2.ensures.none start.stamp rest tidy.stamp (cc (same, c.in-Some.ensures.some.1, c.in-Some-signed_in.ensures.some.1))
