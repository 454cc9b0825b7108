use Rattle.std.proofs.Common.{sym, ap, ◌∙◌}
use Rattle.std.specs.Prelude.{nat_eq}
use Rattle.std.specs.List.{starts_with}
use Rattle.js_base.specs.Bytes.{Bytes}
use Rattle.js_base.specs.Subjects.{matches, tokens}
use Rattle.subject_counts.specs.Sequences.{counts_matching}
use Rattle.subject_counts.specs.SubjectMaps.{shown}
use Rattle.subject_counts.proofs.Matched.{begins_at, distinct_shown, gathered-shown, walks_all, walks_begin, walks_on, walks_over, walks_past, Entry}
use Rattle.subject_counts.proofs.matching.counts_matching.Goals as goal

pub loop-subject-init : goal.loop-subject-init
loop-subject-init c =
    let start = c.extend_from_slice.new.self in
    let begins = begins_at c.args.pattern.now c.literal_prefix.result.now start.items c.new-start.result.items c.in_ok-extend_from_slice.ensures.items c.new-start.ensures.items c.literal_prefix.ensures.begins in
    let all = counts_matching c.args.pattern.now (shown c.args.subjects.now) in
    let subjects = c.args.subjects.now in
    walks_begin c.args.pattern.now start begins all subjects.entries c.range-left.result c.new-found.result.items (gathered-shown c.args.pattern.now subjects) c.range-left.ensures.ordered (c.range-left.ensures.between tt)
    c.new-found.ensures.items

pub returns-then-not-starts_with-clause-value : goal.returns-then-not-starts_with-clause-value
returns-then-not-starts_with-clause-value c =
    let start = c.extend_from_slice.new.self in
    let begins = begins_at c.args.pattern.now c.literal_prefix.result.now start.items c.new-start.result.items c.in_ok-extend_from_slice.ensures.items c.new-start.ensures.items c.literal_prefix.ensures.begins in
    let all = counts_matching c.args.pattern.now (shown c.args.subjects.now) in
    let entry : Entry = (c.in-Some.subject.now, c.in-Some.sequences.now) in
    let tested = c.starts_with.ensures.value ∙ ap (starts_with nat_eq c.deref.result.now) c.as_slice.ensures.value ∙ ap (λ (t : Bytes). starts_with nat_eq t start.items) c.deref.ensures.value in
    walks_past c.args.pattern.now start begins all c.loop-subject.found.items c.loop-subject.left c.loop-subject.invariant entry c.next.new.self c.in-Some.ensures.steps (sym tested ∙ c.if-not-starts_with.true)

pub returns-then-not-starts_with-clause-distinct :
    goal.returns-then-not-starts_with-clause-distinct
returns-then-not-starts_with-clause-distinct c = distinct_shown c.args.subjects.now c.range-left.ensures.ordered

pub loop-subject-preserved-in-Continue-branch-2 : goal.loop-subject-preserved-in-Continue-branch-2
loop-subject-preserved-in-Continue-branch-2 c =
    let start = c.extend_from_slice.new.self in
    let begins = begins_at c.args.pattern.now c.literal_prefix.result.now start.items c.new-start.result.items c.in_ok-extend_from_slice.ensures.items c.new-start.ensures.items c.literal_prefix.ensures.begins in
    let all = counts_matching c.args.pattern.now (shown c.args.subjects.now) in
    let entry : Entry = (c.in-Some.subject.now, c.in-Some.sequences.now) in
    let found = c.matches.ensures.value ∙ ap (λ (t : Bytes). matches (tokens c.args.pattern.now) (tokens t)) c.as_slice-in-Some.ensures.value in
    walks_on c.args.pattern.now start begins all c.loop-subject.found.items c.loop-subject.left c.loop-subject.invariant entry c.next.new.self c.push_counts.new.found.items c.in-Some.ensures.steps (sym found ∙ c.if-matches.true)
    c.in_ok-push_counts.ensures.ok

pub loop-subject-preserved : goal.loop-subject-preserved
loop-subject-preserved c =
    let start = c.extend_from_slice.new.self in
    let begins = begins_at c.args.pattern.now c.literal_prefix.result.now start.items c.new-start.result.items c.in_ok-extend_from_slice.ensures.items c.new-start.ensures.items c.literal_prefix.ensures.begins in
    let all = counts_matching c.args.pattern.now (shown c.args.subjects.now) in
    let entry : Entry = (c.in-Some.subject.now, c.in-Some.sequences.now) in
    let found = c.matches.ensures.value ∙ ap (λ (t : Bytes). matches (tokens c.args.pattern.now) (tokens t)) c.as_slice-in-Some.ensures.value in
    walks_over c.args.pattern.now start begins all c.loop-subject.found.items c.loop-subject.left c.loop-subject.invariant entry c.next.new.self c.in-Some.ensures.steps (sym found ∙ c.if-matches.false)

pub returns-clause-value : goal.returns-clause-value
returns-clause-value c =
    let start = c.extend_from_slice.new.self in
    let begins = begins_at c.args.pattern.now c.literal_prefix.result.now start.items c.new-start.result.items c.in_ok-extend_from_slice.ensures.items c.new-start.ensures.items c.literal_prefix.ensures.begins in
    let all = counts_matching c.args.pattern.now (shown c.args.subjects.now) in
    walks_all c.args.pattern.now start begins all c.loop-subject.found.items c.loop-subject.left c.loop-subject.invariant c.in_default.ensures.steps.0

pub returns-clause-distinct : goal.returns-clause-distinct
returns-clause-distinct c = distinct_shown c.args.subjects.now c.range-left.ensures.ordered
