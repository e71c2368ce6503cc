-- The entries are put one behind the other.
use Rattle.std.proofs.Common.{◌≡◌, length}
use Rattle.bser_from_json.proofs.Entries.{come_all, come_begun, come_on, come_stands}
use Rattle.bser_from_json.proofs.body.with_object.Goals as goal

pub loop-span-init : goal.loop-span-init
loop-span-init c =
    let ps = c.args.entries.now.entries in
    let all : c.into_iter-span-iterator.result ≡ ps = c.into_iter-span-iterator.ensures.into_iter_gives.0 in
    let count : c.len.result ≡ length ps = c.len.ensures.len in
    come_begun c.args.bytes.items c.args.parts.now c.in_ok-all.all.items ps c.into_iter-span-iterator.result c.len.result all count c.in_ok-all.ensures

pub slice_bounds-extend_from_slice-count : goal.slice_bounds-extend_from_slice-count
slice_bounds-extend_from_slice-count c =
    (come_stands c.args.bytes.items c.args.parts.now c.loop-span.all.items c.args.entries.now.entries c.loop-span.span-iterator c.next.new.self _ c.in-Some.ensures.steps c.loop-span.invariant c.requires.0 c.requires.1).0

pub slice_bounds-extend_from_slice-end : goal.slice_bounds-extend_from_slice-end
slice_bounds-extend_from_slice-end c =
    (come_stands c.args.bytes.items c.args.parts.now c.loop-span.all.items c.args.entries.now.entries c.loop-span.span-iterator c.next.new.self _ c.in-Some.ensures.steps c.loop-span.invariant c.requires.0 c.requires.1).1

pub loop-span-preserved : goal.loop-span-preserved
loop-span-preserved c =
    come_on c.args.bytes.items c.args.parts.now c.loop-span.all.items c.extend_from_slice.new.self.items c.args.entries.now.entries c.loop-span.span-iterator c.next.new.self _ c.in-Some.ensures.steps c.in_ok-extend_from_slice.ensures.items c.loop-span.invariant

pub returns : goal.returns
returns c es h = come_all c.args.bytes.items c.args.parts.now c.loop-span.all.items c.args.entries.now.entries c.loop-span.span-iterator c.in-None.ensures.steps.0 c.loop-span.invariant es h
