mod Cutting
mod EachPart
mod TalkLaws
mod Confirmed
mod Replied
