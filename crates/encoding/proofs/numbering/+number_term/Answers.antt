use Rattle.std.proofs.Common.{sym, ap, ◌∙◌, arith}
use Rattle.terms.specs.Terms.{any, con, lit}
use Rattle.encoding.specs.Table.{entries_in}
use Rattle.encoding.proofs.Standing.{stands_any, stands_con, stands_lit, stands_unary, stands_binary, stands_ite}
use Rattle.encoding.proofs.Steps.{numbers_one, numbers_unary, numbers_binary, numbers_ite}
use Rattle.encoding.proofs.numbering.+number_term.Goals as goal

-- names and literals
pub place-requires : goal.place-requires
place-requires t c =
    let r = c.requires.room in
    omega (arith, ap entries_in (stands_any _ _ c.in-Any.k r.0 (sym c.node-node.ensures ∙ c.in-Any.is) r.1), r.2)

pub place-requires-in-Con : goal.place-requires-in-Con
place-requires-in-Con t c =
    let r = c.requires.room in
    omega (arith, ap entries_in (stands_con _ _ c.in-Con.k r.0 (sym c.node-node.ensures ∙ c.in-Con.is) r.1), r.2)

pub place-requires-in-Lit : goal.place-requires-in-Lit
place-requires-in-Lit t c =
    let r = c.requires.room in
    omega (arith, ap entries_in (stands_lit _ _ c.in-Lit.x r.0 (sym c.node-node.ensures ∙ c.in-Lit.is) r.1), r.2)

pub returns-in-Any : goal.returns-in-Any
returns-in-Any t c = numbers_one _ _ _ _ _ (any c.in-Any.k) (λ e s. stands_any _ _ c.in-Any.k e (sym c.node-node.ensures ∙ c.in-Any.is) s) c.place.ensures.table c.place.ensures.place c.place.ensures.more

pub returns-in-Con : goal.returns-in-Con
returns-in-Con t c = numbers_one _ _ _ _ _ (con c.in-Con.k) (λ e s. stands_con _ _ c.in-Con.k e (sym c.node-node.ensures ∙ c.in-Con.is) s) c.place-in-Con.ensures.table c.place-in-Con.ensures.place c.place-in-Con.ensures.more

pub returns-in-Lit : goal.returns-in-Lit
returns-in-Lit t c = numbers_one _ _ _ _ _ (lit c.in-Lit.x) (λ e s. stands_lit _ _ c.in-Lit.x e (sym c.node-node.ensures ∙ c.in-Lit.is) s) c.place-in-Lit.ensures.table c.place-in-Lit.ensures.place c.place-in-Lit.ensures.more

-- an operation on one part
pub number_term-part-requires : goal.number_term-part-requires
number_term-part-requires t c =
    let r = c.requires.room in
    let s = stands_unary _ _ c.in-Unary.op c.in-Unary.j r.0 (sym c.node-node.ensures ∙ c.in-Unary.is) r.1 in
    (omega (arith, s.2), (omega (arith, s.2), (s.0, s.3, omega (arith, ap entries_in s.1, r.2))))

pub place-requires-in-Unary : goal.place-requires-in-Unary
place-requires-in-Unary t c =
    let r = c.requires.room in
    let s = stands_unary _ _ c.in-Unary.op c.in-Unary.j r.0 (sym c.node-node.ensures ∙ c.in-Unary.is) r.1 in
    omega (arith, c.number_term-part.ensures.more s.0 s.3, ap entries_in s.1, r.2)

pub returns-in-Unary : goal.returns-in-Unary
returns-in-Unary t c = numbers_unary _ _ _ c.in-Unary.op (sym c.node-node.ensures ∙ c.in-Unary.is) _ _ _ _ _ c.number_term-part.ensures c.place-in-Unary.ensures.table c.place-in-Unary.ensures.place c.place-in-Unary.ensures.more

-- on two
pub number_term-left-requires : goal.number_term-left-requires
number_term-left-requires t c =
    let r = c.requires.room in
    let s = stands_binary _ _ c.in-Binary.op c.in-Binary.j c.in-Binary.k r.0 (sym c.node-node.ensures ∙ c.in-Binary.is) r.1 in
    (omega (arith, s.3), (omega (arith, s.3), (s.0, s.5, omega (arith, ap entries_in s.2, r.2))))

pub number_term-right-requires : goal.number_term-right-requires
number_term-right-requires t c =
    let r = c.requires.room in
    let s = stands_binary _ _ c.in-Binary.op c.in-Binary.j c.in-Binary.k r.0 (sym c.node-node.ensures ∙ c.in-Binary.is) r.1 in
    (omega (arith, s.4), (omega (arith, s.4), (s.1, s.6, omega (arith, ap entries_in s.2, c.number_term-left.ensures.more s.0 s.5, r.2))))

pub operate-requires : goal.operate-requires
operate-requires t c =
    let r = c.requires.room in
    let s = stands_binary _ _ c.in-Binary.op c.in-Binary.j c.in-Binary.k r.0 (sym c.node-node.ensures ∙ c.in-Binary.is) r.1 in
    omega (arith, ap entries_in s.2, c.number_term-left.ensures.more s.0 s.5, c.number_term-right.ensures.more s.1 s.6, r.2)

pub returns-in-Binary : goal.returns-in-Binary
returns-in-Binary t c = numbers_binary _ _ _ _ c.in-Binary.op (sym c.node-node.ensures ∙ c.in-Binary.is) _ _ _ _ _ _ _ c.number_term-left.ensures c.number_term-right.ensures c.operate.ensures.table c.operate.ensures.place c.operate.ensures.more

-- on three
pub number_term-test-requires : goal.number_term-test-requires
number_term-test-requires t c =
    let r = c.requires.room in
    let s = stands_ite _ _ c.in-Ite.h c.in-Ite.j c.in-Ite.k r.0 (sym c.node-node.ensures ∙ c.in-Ite.is) r.1 in
    (omega (arith, s.4), (omega (arith, s.4), (s.0, s.7, omega (arith, ap entries_in s.3, r.2))))

pub number_term-then-requires : goal.number_term-then-requires
number_term-then-requires t c =
    let r = c.requires.room in
    let s = stands_ite _ _ c.in-Ite.h c.in-Ite.j c.in-Ite.k r.0 (sym c.node-node.ensures ∙ c.in-Ite.is) r.1 in
    (omega (arith, s.5), (omega (arith, s.5), (s.1, s.8, omega (arith, ap entries_in s.3, c.number_term-test.ensures.more s.0 s.7, r.2))))

pub number_term-other-requires : goal.number_term-other-requires
number_term-other-requires t c =
    let r = c.requires.room in
    let s = stands_ite _ _ c.in-Ite.h c.in-Ite.j c.in-Ite.k r.0 (sym c.node-node.ensures ∙ c.in-Ite.is) r.1 in
    (omega (arith, s.6), (omega (arith, s.6), (s.2, s.9, omega (arith, ap entries_in s.3, c.number_term-test.ensures.more s.0 s.7, c.number_term-then.ensures.more s.1 s.8, r.2))))

pub place-requires-in-Ite : goal.place-requires-in-Ite
place-requires-in-Ite t c =
    let r = c.requires.room in
    let s = stands_ite _ _ c.in-Ite.h c.in-Ite.j c.in-Ite.k r.0 (sym c.node-node.ensures ∙ c.in-Ite.is) r.1 in
    omega (arith, ap entries_in s.3, c.number_term-test.ensures.more s.0 s.7, c.number_term-then.ensures.more s.1 s.8, c.number_term-other.ensures.more s.2 s.9, r.2)

pub returns-in-Ite : goal.returns-in-Ite
returns-in-Ite t c = numbers_ite _ _ _ _ _ (sym c.node-node.ensures ∙ c.in-Ite.is) _ _ _ _ _ _ _ _ _ c.number_term-test.ensures c.number_term-then.ensures c.number_term-other.ensures c.place-in-Ite.ensures.table c.place-in-Ite.ensures.place c.place-in-Ite.ensures.more
