-- The literal empty word and a star have the empty word, a sign by its children's answers, and no other kind.
use Rattle.std.proofs.Common.{arith}
use Rattle.derive.proofs.Reading.{word_unknown, word_ε, word_star, word_other, left_before, right_before, word_union, word_both}
use Rattle.derive.proofs.rows.+empty_word.Goals as goal

pub returns-in_default : goal.returns-in_default
returns-in_default t c = word_unknown _ _ c.row-w.ensures c.in_default.ensures

pub returns-in-EmptyWord : goal.returns-in-EmptyWord
returns-in-EmptyWord t c = word_ε _ _ c.row-w.ensures c.in-Some.ensures c.in-EmptyWord.is

pub empty_word-a-requires : goal.empty_word-a-requires
empty_word-a-requires t c =
    let p = left_before _ _ c.row-w.ensures c.in-Some.ensures c.in-Sign.is c.requires in
    (omega (arith, p.0), p.1)

pub empty_word-b-requires : goal.empty_word-b-requires
empty_word-b-requires t c =
    let p = right_before _ _ c.row-w.ensures c.in-Some.ensures c.in-Sign.is c.requires in
    (omega (arith, p.0), p.1)

pub returns-in-Union : goal.returns-in-Union
returns-in-Union t c =
    word_union _ _ c.row-w.ensures c.in-Some.ensures c.in-Sign.is c.requires c.empty_word-a.ensures c.empty_word-b.ensures
    c.in-Union.is

pub returns-in_default-sign : goal.returns-in_default-sign
returns-in_default-sign t c =
    word_both _ _ c.row-w.ensures c.in-Some.ensures c.in-Sign.is c.requires c.empty_word-a.ensures c.empty_word-b.ensures
    c.in_default-sign.not-Union

pub returns-in-Star : goal.returns-in-Star
returns-in-Star t c = word_star _ _ c.row-w.ensures c.in-Some.ensures c.in-Star.is

pub returns-in_default-kind : goal.returns-in_default-kind
returns-in_default-kind t c =
    word_other _ _ c.row-w.ensures c.in-Some.ensures c.in_default-kind.not-EmptyWord c.in_default-kind.not-Sign c.in_default-kind.not-Star
