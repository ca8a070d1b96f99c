mod OneName
