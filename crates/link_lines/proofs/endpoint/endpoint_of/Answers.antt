use Rattle.std.proofs.Common.{arith, ◌∙◌, ◌/◌, ◌%◌, ◌^◌}
use Rattle.link_lines.proofs.EndpointLemmas.{from_first, from_second, from_third, from_fourth, after_first, after_second, after_third, after_fourth, address_is, joined}
use Rattle.link_lines.proofs.endpoint.endpoint_of.Goals as goal

pub returns-in_default-clause-none : goal.returns-in_default-clause-none
returns-in_default-clause-none c = λ e range same.
    c.in_default.ensures.none (e.addr / 256 ^ 3) (from_second e) (omega (arith, range.0)) (same ∙ from_first e)

pub returns-in_default-number_before-clause-none : goal.returns-in_default-number_before-clause-none
unfolding from_second
returns-in_default-number_before-clause-none c = λ e range same.
    let a = c.in-Some.ensures.some in
    c.in_default-number_before.ensures.none (e.addr / 256 ^ 2 % 256) (from_third e) (omega arith)
    (after_first _ _ c.in-Some.a e range a.0 a.1 same)

pub returns-in_default-number_before-2-clause-none : goal.returns-in_default-number_before-2-clause-none
unfolding from_third
returns-in_default-number_before-2-clause-none c = λ e range same.
    let a = c.in-Some.ensures.some in
    let b = c.in-Some-number_before.ensures.some in
    c.in_default-number_before-2.ensures.none (e.addr / 256 % 256) (from_fourth e) (omega arith)
    (after_second _ _ c.in-Some-number_before.b e b.0 b.1
    (after_first _ _ c.in-Some.a e range a.0 a.1 same))

pub returns-in_default-number_before-3-clause-none : goal.returns-in_default-number_before-3-clause-none
unfolding from_fourth
returns-in_default-number_before-3-clause-none c = λ e range same.
    let a = c.in-Some.ensures.some in
    let b = c.in-Some-number_before.ensures.some in
    let third = c.in-Some-number_before-2.ensures.some in
    c.in_default-number_before-3.ensures.none (e.addr % 256) _ (omega arith)
    (after_third _ _ c.in-Some-number_before-2.c e third.0 third.1
    (after_second _ _ c.in-Some-number_before.b e b.0 b.1
    (after_first _ _ c.in-Some.a e range a.0 a.1 same)))

pub returns-in_default-number_of-clause-none : goal.returns-in_default-number_of-clause-none
returns-in_default-number_of-clause-none c = λ e range same.
    let a = c.in-Some.ensures.some in
    let b = c.in-Some-number_before.ensures.some in
    let third = c.in-Some-number_before-2.ensures.some in
    let fourth = c.in-Some-number_before-3.ensures.some in
    c.in_default-number_of.ensures.none e.port (omega (arith, range.1))
    (after_fourth _ _ c.in-Some-number_before-3.d e fourth.0 fourth.1
    (after_third _ _ c.in-Some-number_before-2.c e third.0 third.1
    (after_second _ _ c.in-Some-number_before.b e b.0 b.1
    (after_first _ _ c.in-Some.a e range a.0 a.1 same))))

pub returns-clause-some : goal.returns-clause-some
returns-clause-some c =
    let a = c.in-Some.ensures.some in
    let b = c.in-Some-number_before.ensures.some in
    let third = c.in-Some-number_before-2.ensures.some in
    let fourth = c.in-Some-number_before-3.ensures.some in
    let port = c.in-Some-number_of.ensures.some in
    let is = address_is c.in-Some.a c.in-Some-number_before.b c.in-Some-number_before-2.c c.in-Some-number_before-3.d a.0 b.0 third.0 fourth.0 in
    ((is.fits, omega arith), joined _ _ _ _ _ _ _ _ _ _ is a.1 b.1 third.1 fourth.1 port.1)
