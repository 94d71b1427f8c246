mod CarryLaws
mod ListLaw
mod ReadLaws
mod RoundTrip
mod RunLaws
mod SamePlan
