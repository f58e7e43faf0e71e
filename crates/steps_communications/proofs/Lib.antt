mod CloseLaws
mod ComLaws
mod MeetLaws
mod MeetPairs
mod MeetRows
mod MetLaws
